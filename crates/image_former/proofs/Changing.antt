-- The kinds of entries, and what entries in turn leave of a track.
use Rattle.std.proofs.Common.{◌≡◌, ◌+◌, ◌||◌, ◌&&◌, ℕ, zero, suc, Bool, true, false, cond, List, [], ◌∷◌, length, take, drop, Option, Some, refl, sym, ◌∙◌, ap, subst, arith, ◌≤◌}
use Rattle.std.specs.Prelude.{slice_get, unwrap_or}
use Rattle.std.proofs.lemmas.Bool.{eq-eqb}
use Rattle.std.proofs.lemmas.List.{drop_all}
use Rattle.std.specs.List.{AllZip, list_any}
use Rattle.std.proofs.lemmas.Bool.{or_parts}
use Rattle.std.proofs.lemmas.Option.{same_Some}
use Rattle.ckd_track.specs.declared.rec.Rec.{Rec}
use Rattle.ckd_track.specs.declared.write.Kind.{Kind}
use Rattle.ckd_track.specs.declared.write.Kind.TheVariants.{Update, Format, Whole}
use Rattle.ckd_track.specs.Effects.{apply}
use Rattle.ckd_track.specs.Entries.{AppliesEntry}
use Rattle.pending_queue.specs.declared.head.EntryHead.{EntryHead}
use Rattle.pending_queue.specs.Entries.{WaitingEntry, IsSpelled, write_of}
use Rattle.image_former.specs.Changes.{AreSpelled, changed_by, changed_where}
use Rattle.image_former.specs.Steps.{StartsFromTrack, DoesEntries, is_beside, same_track}
use Rattle.image_former.proofs.Lists.{drop_there}
use Rattle.image_former.proofs.Entries.{EntryThere}

-- the kind of the entry at a place
pub record KindThere (kinds : List Kind) (i : ℕ) (e : WaitingEntry) : Type 0 where
  pub kind : Kind
  pub spelled : IsSpelled e.head kind e.form
  pub rest : drop i kinds ≡ kind ∷ drop (i + 1) kinds

pub kind_there : (entries : List WaitingEntry) (kinds : List Kind) (i : ℕ) (e : WaitingEntry) → AreSpelled entries kinds → slice_get entries i ≡ Some e → KindThere kinds i e
kind_there [] kinds i e spelled is = absurd cc
kind_there (x ∷ entries) [] i e spelled is = absurd spelled
kind_there (x ∷ entries) (k ∷ kinds) zero e spelled is = record { kind = k; spelled = subst (λ (y : WaitingEntry). IsSpelled y.head k y.form) (same_Some x e is) spelled.0; rest = refl }
kind_there (x ∷ entries) (k ∷ kinds) (suc i) e spelled is =
    let t = kind_there entries kinds i e spelled.1 is in
    let next : suc (i + 1) ≡ suc i + 1 = omega arith in
    record { kind = t.kind; spelled = t.spelled; rest = t.rest ∙ ap (λ (n : ℕ). t.kind ∷ drop n (k ∷ kinds)) next }

-- what the entry at a place does, and those after it
pub changed_there : (on : WaitingEntry → Bool) (entries : List WaitingEntry) (kinds : List Kind) (i : ℕ) (e : WaitingEntry) (t : KindThere kinds i e) (old : Option (List Rec)) → slice_get entries i ≡ Some e
    → changed_where on (drop i entries) (drop i kinds) old ≡ changed_where on (drop (i + 1) entries) (drop (i + 1) kinds) (changed_by (on e) t.kind old)
changed_there on entries kinds i e t old is =
    ap (λ (l : List WaitingEntry). changed_where on l (drop i kinds) old) (drop_there entries i e is) ∙ ap (λ (l : List Kind). changed_where on (e ∷ drop (i + 1) entries) l old) t.rest

-- where an entry is on the track, or isn't
pub changed_on : (on : Bool) (kind : Kind) (old : Option (List Rec)) → on ≡ true → changed_by on kind old ≡ Some (apply (unwrap_or old []) kind)
changed_on on kind old is = λ i. cond (is i) (Some (apply (unwrap_or old []) kind)) old

pub changed_off : (on : Bool) (kind : Kind) (old : Option (List Rec)) → on ≡ false → changed_by on kind old ≡ old
changed_off on kind old is = λ i. cond (is i) (Some (apply (unwrap_or old []) kind)) old

-- what the entry's form was applied as
pub applied : (e : WaitingEntry) (kind : Kind) (form : List ℕ) (old new : List Rec) → IsSpelled e.head kind e.form → e.form ≡ form → AppliesEntry form old new → new ≡ apply old kind
applied e kind form old new spelled shown applies = applies (write_of e.head kind) spelled.keeps (sym shown ∙ spelled.spelled)

-- The first entry on a track replaces it, or finds it read.
pub begins_same : (e : WaitingEntry) (kind : Kind) (old : Option (List Rec)) (recs : List Rec) → IsSpelled e.head kind e.form → StartsFromTrack e.head old recs → apply recs kind ≡ apply (unwrap_or old []) kind
begins_same e (Update number bytes) old recs spelled begins = ap (λ (l : List Rec). apply l (Update number bytes)) (begins spelled.whole)
begins_same e (Format after given) old recs spelled begins = ap (λ (l : List Rec). apply l (Format after given)) (begins spelled.whole)
begins_same e (Whole track) old recs spelled begins = refl

-- Entries that aren't on the track leave it.
pub changed_after : (on : WaitingEntry → Bool) (i : ℕ) (entries : List WaitingEntry) (kinds : List Kind) (old : Option (List Rec)) → AreSpelled entries kinds → list_any on (take i entries) ≡ false
    → changed_where on entries kinds old ≡ changed_where on (drop i entries) (drop i kinds) old
changed_after on zero entries kinds old spelled none = refl
changed_after on (suc i) [] [] old spelled none = refl
changed_after on (suc i) [] (k ∷ kinds) old spelled none = absurd spelled
changed_after on (suc i) (e ∷ entries) [] old spelled none = absurd spelled
changed_after on (suc i) (e ∷ entries) (k ∷ kinds) old spelled none =
    let parts = or_parts (on e) (list_any on (take i entries)) none in
    ap (λ (t : Option (List Rec)). changed_where on entries kinds t) (changed_off (on e) k old parts.0) ∙ changed_after on i entries kinds old spelled.1 parts.1

pub changed_none : (on : WaitingEntry → Bool) (entries : List WaitingEntry) (kinds : List Kind) (old : Option (List Rec)) → list_any on entries ≡ false → changed_where on entries kinds old ≡ old
changed_none on [] kinds old none = refl
changed_none on (e ∷ entries) [] old none = refl
changed_none on (e ∷ entries) (k ∷ kinds) old none =
    let parts = or_parts (on e) (list_any on entries) none in
    ap (λ (t : Option (List Rec)). changed_where on entries kinds t) (changed_off (on e) k old parts.0) ∙ changed_none on entries kinds old parts.1

-- A test that agrees at each entry says the same.
pub changed_agree : (on other : WaitingEntry → Bool) (entries : List WaitingEntry) (kinds : List Kind) (old : Option (List Rec)) → AllZip (λ e f. on e ≡ other f) entries entries
    → changed_where on entries kinds old ≡ changed_where other entries kinds old
changed_agree on other [] kinds old same = refl
changed_agree on other (e ∷ entries) [] old same = refl
changed_agree on other (e ∷ entries) (k ∷ kinds) old same =
    ap (λ (b : Bool). changed_where on entries kinds (changed_by b k old)) same.0 ∙ changed_agree on other entries kinds (changed_by (other e) k old) same.1

pub any_agree : (on other : WaitingEntry → Bool) (i : ℕ) (entries : List WaitingEntry) → AllZip (λ e f. on e ≡ other f) entries entries → list_any on (take i entries) ≡ list_any other (take i entries)
any_agree on other zero entries same = refl
any_agree on other (suc i) [] same = refl
any_agree on other (suc i) (e ∷ entries) same = λ j. same.0 j || any_agree on other i entries same.1 j

-- ---- the entries of one track applied to a slot

-- What is left to do to a slot is what the entry at the place and those after it do.
abbrev pub Applying : EntryHead → (place later : ℕ) → List WaitingEntry → (first now : List Rec) → Type 0
Applying head place later entries first now = (old : Option (List Rec)) (kinds : List Kind) → StartsFromTrack head old first → AreSpelled entries kinds
    → changed_where (is_beside head) (drop later entries) (drop later kinds) (Some now) ≡ changed_where (is_beside head) (drop place entries) (drop place kinds) old

beside_itself : (head : EntryHead) → same_track head head ≡ true
beside_itself head = λ i. eq-eqb head.control head.control refl i && eq-eqb head.volume head.volume refl i && eq-eqb head.track head.track refl i

pub apply_first : (head : EntryHead) (place : ℕ) (entries : List WaitingEntry) (e : EntryThere entries place head) (form : List ℕ) (first now : List Rec) → e.entry.form ≡ form → AppliesEntry form first now
    → Applying head place (place + 1) entries first now
apply_first head place entries e form first now shown applies old kinds begins spelled =
    let t = kind_there entries kinds place e.entry spelled e.there in
    let here : is_beside head e.entry ≡ true = ap (same_track head) e.head ∙ beside_itself head in
    let new : now ≡ apply (unwrap_or old []) t.kind =
    applied e.entry t.kind form first now t.spelled shown applies ∙ begins_same e.entry t.kind old first t.spelled (subst (λ (h : EntryHead). StartsFromTrack h old first) (sym e.head) begins) in
    sym (changed_there (is_beside head) entries kinds place e.entry t old e.there
    ∙ ap (λ (o : Option (List Rec)). changed_where (is_beside head) (drop (place + 1) entries) (drop (place + 1) kinds) o) (changed_on (is_beside head e.entry) t.kind old here ∙ ap (λ (l : List Rec). Some l) (sym new)))

pub apply_more : (head g : EntryHead) (place later : ℕ) (entries : List WaitingEntry) (e : EntryThere entries later g) (form : List ℕ) (first now next : List Rec) → Applying head place later entries first now
    → same_track head g ≡ true → e.entry.form ≡ form → AppliesEntry form now next → Applying head place (later + 1) entries first next
apply_more head g place later entries e form first now next so_far is shown applies old kinds begins spelled =
    let t = kind_there entries kinds later e.entry spelled e.there in
    let here : is_beside head e.entry ≡ true = ap (same_track head) e.head ∙ is in
    ap (λ (l : List Rec). changed_where (is_beside head) (drop (later + 1) entries) (drop (later + 1) kinds) (Some l)) (applied e.entry t.kind form now next t.spelled shown applies)
    ∙ ap (λ (o : Option (List Rec)). changed_where (is_beside head) (drop (later + 1) entries) (drop (later + 1) kinds) o) (sym (changed_on (is_beside head e.entry) t.kind (Some now) here))
    ∙ sym (changed_there (is_beside head) entries kinds later e.entry t (Some now) e.there)
    ∙ so_far old kinds begins spelled

pub apply_other : (head g : EntryHead) (place later : ℕ) (entries : List WaitingEntry) (e : EntryThere entries later g) (first now : List Rec) → Applying head place later entries first now
    → same_track head g ≡ false → Applying head place (later + 1) entries first now
apply_other head g place later entries e first now so_far other old kinds begins spelled =
    let t = kind_there entries kinds later e.entry spelled e.there in
    let away : is_beside head e.entry ≡ false = ap (same_track head) e.head ∙ other in
    ap (λ (o : Option (List Rec)). changed_where (is_beside head) (drop (later + 1) entries) (drop (later + 1) kinds) o) (sym (changed_off (is_beside head e.entry) t.kind (Some now) away))
    ∙ sym (changed_there (is_beside head) entries kinds later e.entry t (Some now) e.there)
    ∙ so_far old kinds begins spelled

pub apply_all : (head : EntryHead) (place later : ℕ) (entries : List WaitingEntry) (first now : List Rec) → Applying head place later entries first now → length entries ≤ later
    → (old : Option (List Rec)) → StartsFromTrack head old first → DoesEntries head place entries old now
apply_all head place later entries first now so_far end old begins kinds spelled =
    ap (λ (l : List WaitingEntry). changed_where (is_beside head) l (drop later kinds) (Some now)) (sym (drop_all later entries end)) ∙ so_far old kinds begins spelled
