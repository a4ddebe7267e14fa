use Rattle.mover.proofs.reading.read_part.Given as goal

abbrev pub ghosts-read_with_seat : goal.ghosts-read_with_seat
ghosts-read_with_seat g a = record { table = a.group.now; volumes = a.feed.now.side.reader.volumes }
