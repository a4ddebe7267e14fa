-- Reading base track after base track over a source, and a header from its parts.
use Rattle.std.proofs.Common.{◌≡◌, ℕ, suc, ◌+◌, ◌-◌, ◌<◌, ◌≤◌, true, nat_le, List, [], ◌∷◌, ◌++◌, length, sum_by, Option, None, Result, Ok, Err, refl, sym, ap, subst, ◌∙◌, append_assoc, arith, length-append}
use Rattle.std.specs.Int.{w16, w32}
use Rattle.std.proofs.lemmas.Bool.{le-leb}
use Rattle.std.proofs.lemmas.List.{append-nil}
use Rattle.xrc_edge.specs.Causes.{Rose}
use Rattle.tod_stamp.specs.Fields.{◌>>=◌, Left, Bad, number_at, within, is_version}
use Rattle.ckd_track.specs.Tracks.{IsTrack}
use Rattle.write_trace.specs.declared.header.VolumeHead.{VolumeHead}
use Rattle.write_trace.specs.declared.header.Header.{Header}
use Rattle.write_trace.specs.declared.trace.HeaderError.{HeaderError}
use Rattle.write_trace.specs.declared.trace.HeaderError.TheVariants.{BadHeader, HeaderFault, NoMemory}
use Rattle.write_trace.specs.Headers.{Base, tracks_of, is_track_of, is_from, are_volumes, are_bases, is_header, version_at, volumes_at, base_at, bases_at, header_at}
use Rattle.write_trace.specs.WholeTraces.{whole_trace}
use Rattle.write_trace.proofs.FieldSteps.{and_true}
use Rattle.write_trace.specs.UnreadBytes.{unread, seen}
use Rattle.write_trace.specs.Answers.{ReaderState}
use Rattle.write_trace.specs.Starts.{ReadsHeader, Starts}
use Rattle.write_trace.specs.HeaderProgress.{HeaderRest, ReachesHeader, Reached, ReadsPart}
use Rattle.write_trace.specs.HeaderParts.{header_front_at}

-- readers that give the same
pub reached_same : (start now : Option (List ℕ)) (remains others : HeaderRest) (held : Left) → ((left : Left) → remains left ≡ others left) → Reached start now remains held → Reached start now others held
reached_same start now remains others held same reached bytes told =
    let r = reached bytes told in
    record { left = r.left; told = r.told; given = r.given; all = r.all; long = r.long; reads = λ more. r.reads more ∙ same (seen held.place (held.bytes ++ more)) }

-- ---- base track after base track

-- base tracks that were read before, and what remains after the others
abbrev pub after_bases : List Base → (List Base × Left → Result (Header × Left) Bad) → List Base × Left → Result (Header × Left) Bad
after_bases front remains x = remains (front ++ x.0, x.1)

-- where so many of the base tracks were read, what remained after all remains after the others
abbrev pub ReadsOn : (before now : Option (List ℕ)) → (version : ℕ) → List VolumeHead → (many count : ℕ) → (low : ℕ × ℕ) → List Base → (old new : Left) → Type 0
ReadsOn before now version volumes many count low front old new = (start : Option (List ℕ)) (remains : List Base × Left → Result (Header × Left) Bad) → Reached start before (λ left. bases_at version volumes many (0, 0) left >>= remains) old
    → Reached start now (λ left. bases_at version volumes count low left >>= after_bases front remains) new

pub reads_none : (before : Option (List ℕ)) (version : ℕ) (volumes : List VolumeHead) (many count : ℕ) (front : List Base) (old : Left) → count ≡ many → front ≡ [] → ReadsOn before before version volumes many count (0, 0) front old old
reads_none before version volumes many count front old all none start remains reached =
    subst (λ n. Reached start before (λ left. bases_at version volumes n (0, 0) left >>= after_bases front remains) old) (sym all)
    (subst (λ (f : List Base). Reached start before (λ left. bases_at version volumes many (0, 0) left >>= after_bases f remains) old) (sym none) reached)

-- what remains after the next base track
abbrev after_base : (version : ℕ) → List VolumeHead → (count : ℕ) → List Base → (List Base × Left → Result (Header × Left) Bad) → Base × Left → Result (Header × Left) Bad
after_base version volumes count front remains first = (bases_at version volumes count (first.0.0, first.0.1 + 1) first.1 >>= λ others. Ok (first.0 ∷ others.0, others.1)) >>= after_bases front remains

next_base : (version : ℕ) (volumes : List VolumeHead) (count : ℕ) (low : ℕ × ℕ) (front : List Base) (remains : List Base × Left → Result (Header × Left) Bad) (left : Left)
    → (bases_at version volumes (suc count) low left >>= after_bases front remains) ≡ (base_at version volumes low left >>= after_base version volumes count front remains)
unfolding bases_at
next_base version volumes count low front remains left = choose (base_at version volumes low left)
  where
    choose : (r : Result (Base × Left) Bad) → ((r >>= λ first. bases_at version volumes count (first.0.0, first.0.1 + 1) first.1 >>= λ others. Ok (first.0 ∷ others.0, others.1)) >>= after_bases front remains) ≡ (r >>= after_base version volumes count front remains)
    choose (Ok x) = refl
    choose (Err e) = refl

one_more : (front : List Base) (b : Base) (remains : List Base × Left → Result (Header × Left) Bad) (r : Result (List Base × Left) Bad)
    → ((r >>= λ others. Ok (b ∷ others.0, others.1)) >>= after_bases front remains) ≡ (r >>= after_bases (front ++ b ∷ []) remains)
one_more front b remains (Ok x) = ap (λ (t : List Base). remains (t, x.1)) (sym (append_assoc front (b ∷ []) x.0))
one_more front b remains (Err e) = refl

pub reads_next : (before now next : Option (List ℕ)) (version : ℕ) (volumes : List VolumeHead) (many i : ℕ) (low : ℕ × ℕ) (front : List Base) (faults risen : ℕ) (old mid new : Left) (b : Base) → i < many
    → ReadsOn before now version volumes many (many - i) low front old mid → ReadsPart (base_at version volumes low) now next faults risen mid new (Ok b) → ReadsOn before next version volumes many (many - (i + 1)) (b.0, b.1 + 1) (front ++ b ∷ []) old new
reads_next before now next version volumes many i low front faults risen old mid new b lt on part start remains reached =
    let count = many - (i + 1) in
    let k : many - i ≡ suc count = omega arith in
    let here : Reached start now (λ left. base_at version volumes low left >>= after_base version volumes count front remains) mid =
    reached_same start now (λ left. bases_at version volumes (suc count) low left >>= after_bases front remains) (λ left. base_at version volumes low left >>= after_base version volumes count front remains) mid (next_base version volumes count low front remains)
    (subst (λ n. Reached start now (λ left. bases_at version volumes n low left >>= after_bases front remains) mid) k (on start remains reached)) in
    reached_same start next (λ left. after_base version volumes count front remains (b, left)) (λ left. bases_at version volumes count (b.0, b.1 + 1) left >>= after_bases (front ++ b ∷ []) remains) new
    (λ left. one_more front b remains (bases_at version volumes count (b.0, b.1 + 1) left)) (part.0 start (after_base version volumes count front remains) here)

pub reads_ends : (before now next : Option (List ℕ)) (version : ℕ) (volumes : List VolumeHead) (many i : ℕ) (low : ℕ × ℕ) (front : List Base) (faults risen after : ℕ) (old mid new : Left) (error : HeaderError) → i < many → risen ≡ faults
    → ReadsOn before now version volumes many (many - i) low front old mid → ReadsPart (base_at version volumes low) now next risen after mid new (Err error) → ReadsPart (bases_at version volumes many (0, 0)) before next faults after old new (Err error)
reads_ends before now next version volumes many i low front faults risen after old mid new error lt same on part = choose error part
  where
    here : (start : Option (List ℕ)) (remains : List Base × Left → Result (Header × Left) Bad) → Reached start before (λ left. bases_at version volumes many (0, 0) left >>= remains) old → Reached start now (λ left. base_at version volumes low left >>= after_base version volumes (many - (i + 1)) front remains) mid
    here start remains reached =
        let count = many - (i + 1) in
        let k : many - i ≡ suc count = omega arith in
        reached_same start now (λ left. bases_at version volumes (suc count) low left >>= after_bases front remains) (λ left. base_at version volumes low left >>= after_base version volumes count front remains) mid (next_base version volumes count low front remains)
        (subst (λ n. Reached start now (λ left. bases_at version volumes n low left >>= after_bases front remains) mid) k (on start remains reached))

    choose : (e : HeaderError) → ReadsPart (base_at version volumes low) now next risen after mid new (Err e) → ReadsPart (bases_at version volumes many (0, 0)) before next faults after old new (Err e)
    choose (BadHeader place) p = (λ start remains reached. p.0 start (after_base version volumes (many - (i + 1)) front remains) (here start remains reached), p.1 ∙ same)
    choose HeaderFault p = (λ start remains reached. p.0 start (after_base version volumes (many - (i + 1)) front remains) (here start remains reached), subst (λ n. Rose n after) same p.1)
    choose NoMemory p = p ∙ same

pub reads_all : (before now : Option (List ℕ)) (version : ℕ) (volumes : List VolumeHead) (many i : ℕ) (low : ℕ × ℕ) (front : List Base) (faults risen : ℕ) (old mid : Left) → many ≤ i → risen ≡ faults
    → ReadsOn before now version volumes many (many - i) low front old mid → ReadsPart (bases_at version volumes many (0, 0)) before now faults risen old mid (Ok front)
unfolding bases_at
reads_all before now version volumes many i low front faults risen old mid le same on = (λ start remains reached. done start remains (on start remains reached), same)
  where
    k : many - i ≡ 0
    k = omega arith

    last : (remains : List Base × Left → Result (Header × Left) Bad) (left : Left) → (bases_at version volumes (many - i) low left >>= after_bases front remains) ≡ remains (front, left)
    last remains left = rw k (ap (λ (t : List Base). remains (t, left)) (append-nil front))

    done : (start : Option (List ℕ)) (remains : List Base × Left → Result (Header × Left) Bad) → Reached start now (λ left. bases_at version volumes (many - i) low left >>= after_bases front remains) mid → Reached start now (λ left. remains (front, left)) mid
    done start remains reached = reached_same start now (λ left. bases_at version volumes (many - i) low left >>= after_bases front remains) (λ left. remains (front, left)) mid (last remains) reached

-- ---- the rules of base tracks in a row

-- base tracks that may stand before any that may stand from a place on
abbrev pub KeepsFront : List VolumeHead → (low : ℕ × ℕ) → List Base → Type 0
KeepsFront volumes low front = (rest : List Base) → are_bases volumes low rest ≡ true → are_bases volumes (0, 0) (front ++ rest) ≡ true

pub keeps_none : (volumes : List VolumeHead) (front : List Base) → front ≡ [] → KeepsFront volumes (0, 0) front
keeps_none volumes front none rest is = ap (λ (f : List Base). are_bases volumes (0, 0) (f ++ rest)) none ∙ is

pub keeps_next : (volumes : List VolumeHead) (low : ℕ × ℕ) (front : List Base) (b : Base) → is_track_of volumes b.0 b.1 ≡ true → is_from low (b.0, b.1) ≡ true → IsTrack b.2 → KeepsFront volumes low front → KeepsFront volumes (b.0, b.1 + 1) (front ++ b ∷ [])
keeps_next volumes low front b there from track keeps rest is =
    ap (are_bases volumes (0, 0)) (append_assoc front (b ∷ []) rest) ∙ keeps (b ∷ rest) (and_true _ _ (and_true _ _ (and_true _ _ there from) track) is)

pub keeps_all : (volumes : List VolumeHead) (low : ℕ × ℕ) (front : List Base) → KeepsFront volumes low front → are_bases volumes (0, 0) front ≡ true
keeps_all volumes low front keeps = ap (are_bases volumes (0, 0)) (sym (append-nil front)) ∙ keeps [] refl

-- ---- a header from its parts

-- what remains of a header after its head
abbrev pub after_head : (ℕ × List VolumeHead × ℕ) × Left → Result (Header × Left) Bad
after_head head = bases_at head.0.0 head.0.1 head.0.2 (0, 0) head.1 >>= λ base. Ok (record { version = head.0.0; volumes = head.0.1; base = base.0 }, base.1)

abbrev many_at : List VolumeHead → Left → Result (ℕ × Left) Bad
many_at volumes left = number_at w32 (λ n. nat_le n (sum_by tracks_of volumes)) left

many_part : (version : ℕ) (volumes : List VolumeHead) (r : Result (ℕ × Left) Bad) → (r >>= λ many. bases_at version volumes many.0 (0, 0) many.1 >>= λ base. Ok (record { version = version; volumes = volumes; base = base.0 }, base.1)) ≡ ((r >>= λ many. Ok ((version, volumes, many.0), many.1)) >>= after_head)
many_part version volumes (Ok x) = refl
many_part version volumes (Err e) = refl

volumes_part : (version : ℕ) (r : Result (List VolumeHead × Left) Bad)
    → (r >>= λ volumes. many_at volumes.0 volumes.1 >>= λ many. bases_at version volumes.0 many.0 (0, 0) many.1 >>= λ base. Ok (record { version = version; volumes = volumes.0; base = base.0 }, base.1))
    ≡ ((r >>= λ volumes. many_at volumes.0 volumes.1 >>= λ many. Ok ((version, volumes.0, many.0), many.1)) >>= after_head)
volumes_part version (Ok x) = many_part version x.0 (many_at x.0 x.1)
volumes_part version (Err e) = refl

abbrev after_mark : (version : ℕ) → Left → Result (Header × Left) Bad
after_mark version left = number_at w16 (within 1 32) left >>= λ count. volumes_at version count.0 [] count.1 >>= λ volumes. many_at volumes.0 volumes.1 >>= λ many. bases_at version volumes.0 many.0 (0, 0) many.1 >>= λ base. Ok (record { version = version; volumes = volumes.0; base = base.0 }, base.1)

abbrev head_after_mark : (version : ℕ) → Left → Result ((ℕ × List VolumeHead × ℕ) × Left) Bad
head_after_mark version left = number_at w16 (within 1 32) left >>= λ count. volumes_at version count.0 [] count.1 >>= λ volumes. many_at volumes.0 volumes.1 >>= λ many. Ok ((version, volumes.0, many.0), many.1)

count_part : (version : ℕ) (r : Result (ℕ × Left) Bad)
    → (r >>= λ count. volumes_at version count.0 [] count.1 >>= λ volumes. many_at volumes.0 volumes.1 >>= λ many. bases_at version volumes.0 many.0 (0, 0) many.1 >>= λ base. Ok (record { version = version; volumes = volumes.0; base = base.0 }, base.1))
    ≡ ((r >>= λ count. volumes_at version count.0 [] count.1 >>= λ volumes. many_at volumes.0 volumes.1 >>= λ many. Ok ((version, volumes.0, many.0), many.1)) >>= after_head)
count_part version (Ok x) = volumes_part version (volumes_at version x.0 [] x.1)
count_part version (Err e) = refl

mark_part : (r : Result (ℕ × Left) Bad) → (r >>= λ version. after_mark version.0 version.1) ≡ ((r >>= λ version. head_after_mark version.0 version.1) >>= after_head)
mark_part (Ok x) = count_part x.0 (number_at w16 (within 1 32) x.1)
mark_part (Err e) = refl

-- A header is its head, and then its base tracks.
pub header_parts : (left : Left) → header_at left ≡ (header_front_at left >>= after_head)
unfolding header_at header_front_at
header_parts left = mark_part (version_at left)

-- At the start nothing was given, and all remains.
pub at_start : (before : Option (List ℕ)) (held : Left) → held ≡ record { place = 0; bytes = [] } → Reached before before (λ left. header_front_at left >>= after_head) held
at_start before held is bytes told = subst (λ (l : Left). ReachesHeader before (λ left. header_front_at left >>= after_head) l bytes) (sym is) (record {
  left = bytes;
  told = told;
  given = [];
  all = refl;
  long = refl;
  reads = λ more. header_parts (seen 0 more);
})

pub keeps_header : (version : ℕ) (volumes : List VolumeHead) (base : List Base) → is_version version ≡ true → 1 ≤ length volumes → length volumes ≤ 32 → are_volumes version [] volumes ≡ true → are_bases volumes (0, 0) base ≡ true → is_header (record { version = version; volumes = volumes; base = base }) ≡ true
keeps_header version volumes base is some few rules bases =
    and_true _ _ (and_true _ _ (and_true (is_version version) (within 1 32 (length volumes)) is (and_true (nat_le 1 (length volumes)) (nat_le (length volumes) 32) (le-leb _ _ some) (le-leb _ _ few))) rules) bases

-- the whole header was read
pub started : (before now : Option (List ℕ)) (version : ℕ) (volumes copy : List VolumeHead) (base : List Base) (held window : Left) (reader : ReaderState) → copy ≡ volumes → window ≡ held → Reached before now (λ left. Ok (record { version = version; volumes = volumes; base = base }, left)) held
    → reader ≡ record { version = version; volumes = copy; last = 0; left = window; stopped = None } → is_header (record { version = version; volumes = volumes; base = base }) ≡ true → ReadsHeader before now (record { version = version; volumes = volumes; base = base }) reader
started before now version volumes copy base held window reader same there reached is keeps = subst (λ (r : ReaderState). ReadsHeader before now (record { version = version; volumes = volumes; base = base }) r) (sym (is ∙ rw (same, there) refl)) (record {
  version = refl;
  volumes = refl;
  last = refl;
  goes_on = refl;
  kept = keeps;
  reads = λ bytes told.
      let r = reached bytes told in
      let len : held.place + length (held.bytes ++ r.left) ≡ length bytes = omega (arith, r.long, length-append held.bytes r.left, ap length r.all, length-append r.given r.left) in
      (held.bytes ++ r.left, ap (unread held.bytes) r.told, ap (λ (t : List ℕ). header_at (whole_trace t)) r.all ∙ r.reads r.left, len);
})

-- a part of the header was not read
pub part_fails : {A : Type 0} (part : Left → Result (A × Left) Bad) (before mid now : Option (List ℕ)) (faults risen after : ℕ) (remains : A × Left → Result (Header × Left) Bad) (held new : Left) (error : HeaderError) → risen ≡ faults
    → Reached before mid (λ left. part left >>= remains) held → ReadsPart part mid now risen after held new (Err error) → Starts before now faults after (Err error)
part_fails part before mid now faults risen after remains held new (BadHeader place) same reached p = (p.0 before remains reached, p.1 ∙ same)
part_fails part before mid now faults risen after remains held new HeaderFault same reached p = (p.0 before remains reached, subst (λ n. Rose n after) same p.1)
part_fails part before mid now faults risen after remains held new NoMemory same reached p = p ∙ same
