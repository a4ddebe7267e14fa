use Rattle.site_store.proofs.Contents.{only_entries, own_track, rows_before}
use Rattle.site_store.proofs.Excepting.{whole_ends}
use Rattle.site_store.proofs.deeds.entries_alone_change_content.Goals as goal

pub returns-clause-only : goal.returns-clause-only
returns-clause-only c = only_entries

pub returns-clause-before : goal.returns-clause-before
returns-clause-before c = rows_before

pub returns-clause-whole : goal.returns-clause-whole
returns-clause-whole c = whole_ends

pub returns-clause-tracks : goal.returns-clause-tracks
returns-clause-tracks c = own_track
