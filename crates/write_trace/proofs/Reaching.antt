-- How a header is reached: pieces that come leave all to be read that was, a part that is read leaves what remains after it,
-- and what ends within a field ends within the header.
use Rattle.std.proofs.Common.{◌≡◌, ℕ, ◌+◌, ◌-◌, ◌≤◌, List, [], ◌∷◌, ◌++◌, length, take, drop, Option, Some, None, Result, Ok, Err, refl, sym, ap, subst, ◌∙◌, append_assoc, arith, length-append, length-take, length-drop}
use Rattle.std.proofs.lemmas.List.{append-nil, append_cancel_left}
use Rattle.xrc_edge.specs.Causes.{Rose}
use Rattle.tod_stamp.specs.Fields.{◌>>=◌, Left, Bad, after}
use Rattle.tod_stamp.specs.Fields.Bad.{Cut, Broken}
use Rattle.write_trace.specs.declared.header.Header.{Header}
use Rattle.write_trace.specs.declared.trace.HeaderError.{HeaderError}
use Rattle.write_trace.specs.declared.trace.HeaderError.TheVariants.{BadHeader, HeaderFault, NoMemory}
use Rattle.write_trace.specs.Headers.{header_at}
use Rattle.write_trace.specs.WholeTraces.{most_bytes, whole_trace}
use Rattle.write_trace.specs.UnreadBytes.{unread, seen, IsAtEnd}
use Rattle.write_trace.specs.Starts.{IsBadHeader, FailsInHeader}
use Rattle.write_trace.specs.HeaderProgress.{HeaderRest, Reached, StaysReached, IsCutThere, Gathers, ReadsPart}
use Rattle.write_trace.proofs.Steady.{IsSteady}
use Rattle.write_trace.proofs.Ahead.{ahead_is, read_ahead, broken_ahead, full_ahead, seen_skip}

-- ---- two ways to part a row

record Parts (short long tail rest : List ℕ) : Type 0 where
  pub piece : List ℕ
  pub longer : long ≡ short ++ piece
  pub split : tail ≡ piece ++ rest

parts_of : (short long tail rest : List ℕ) → short ++ tail ≡ long ++ rest → length short ≤ length long → Parts short long tail rest
parts_of [] long tail rest e le = record { piece = long; longer = refl; split = e }
parts_of (x ∷ short) [] tail rest e le = absurd (omega (arith, le))
parts_of (x ∷ short) (y ∷ long) tail rest e le =
    let tails : short ++ tail ≡ long ++ rest = cc in
    let heads : x ≡ y = cc in
    let p = parts_of short long tail rest tails (omega (arith, le)) in
    record { piece = p.piece; longer = cc (p.longer, heads); split = p.split }

-- ---- pieces

pub waits_more : (before now : Option (List ℕ)) (old new : Left) → new.place ≡ old.place → unread new.bytes now ≡ unread old.bytes before → length old.bytes ≤ length new.bytes → StaysReached before now old new
waits_more before now old new at same le start remains reached bytes told =
    let r = reached bytes told in
    let ahead = ahead_is new.bytes now (old.bytes ++ r.left) (same ∙ ap (unread old.bytes) r.told) in
    let p = parts_of old.bytes new.bytes r.left ahead.0 ahead.2 le in
    record {
      left = ahead.0;
      told = ahead.1;
      given = r.given ++ p.piece;
      all = r.all ∙ ap (λ (t : List ℕ). r.given ++ t) p.split ∙ sym (append_assoc r.given p.piece ahead.0);
      long = omega (arith, r.long, at, ap length p.longer, length-append r.given p.piece, length-append old.bytes p.piece);
      reads = λ more. ap (λ (t : List ℕ). header_at (seen 0 t)) (append_assoc r.given p.piece more) ∙ r.reads (p.piece ++ more)
          ∙ ap (λ (t : List ℕ). remains (seen old.place t)) (sym (append_assoc old.bytes p.piece more) ∙ ap (λ (t : List ℕ). t ++ more) (sym p.longer)) ∙ ap (λ n. remains (seen n (new.bytes ++ more))) (sym at);
    }

-- ---- a part that is read

pub part_read : {A : Type 0} (part : Left → Result (A × Left) Bad) → IsSteady part → (start now : Option (List ℕ)) (remains : A × Left → Result (Header × Left) Bad) (old new : Left) (x : A)
    → new.place + length new.bytes ≡ old.place + length old.bytes → part (seen old.place old.bytes) ≡ Ok (x, seen new.place new.bytes)
    → Reached start now (λ left. part left >>= remains) old → Reached start now (λ left. remains (x, left)) new
part_read part steady start now remains old new x same read reached bytes told =
    let r = reached bytes told in
    record {
      left = r.left;
      told = r.told;
      given = r.given;
      all = r.all;
      long = omega (arith, r.long, same);
      reads = λ more. r.reads more ∙ ap (λ (q : Result (_ × Left) Bad). q >>= remains) (read_ahead part steady old.place new.place old.bytes new.bytes more x same read);
    }

-- ---- a field that is bad

at_whole : (bytes given left : List ℕ) → bytes ≡ given ++ left → header_at (whole_trace bytes) ≡ header_at (seen 0 (given ++ left))
at_whole bytes given left is = ap (λ (t : List ℕ). header_at (whole_trace t)) is

pub part_broken : {A : Type 0} (part : Left → Result (A × Left) Bad) → IsSteady part → (start now : Option (List ℕ)) (remains : A × Left → Result (Header × Left) Bad) (old : Left) (place : ℕ)
    → part (seen old.place old.bytes) ≡ Err (Broken place) → Reached start now (λ left. part left >>= remains) old → IsBadHeader start place
part_broken part steady start now remains old place broken reached bytes told =
    let r = reached bytes told in (
      Broken place,
      at_whole bytes r.given r.left r.all ∙ r.reads r.left ∙ ap (λ (q : Result (_ × Left) Bad). q >>= remains) (broken_ahead part steady old.place place old.bytes r.left broken),
      refl,
    )

-- ---- bytes that end within a field

pub bad_when_full : (start before : Option (List ℕ)) (remains : HeaderRest) (held : Left) (place : ℕ) → most_bytes ≤ held.place + length held.bytes → Reached start before remains held → IsCutThere remains held place → IsBadHeader start place
bad_when_full start before remains held place full reached cut bytes told =
    let r = reached bytes told in
    (Cut place, at_whole bytes r.given r.left r.all ∙ r.reads r.left ∙ ap remains (full_ahead held.place held.bytes r.left full) ∙ cut, refl)

end_more : (now : Option (List ℕ)) (more : List ℕ) → now ≡ Some more → IsAtEnd now → more ≡ []
end_more None more e h = absurd cc
end_more (Some bytes) more e h = let is : bytes ≡ more = cc in sym is ∙ h

-- what the source has left where it gave nothing more
still_left : (before now : Option (List ℕ)) (held left : List ℕ) → unread held now ≡ unread held before → before ≡ Some left → now ≡ Some left
still_left before now held left same told =
    let ahead = ahead_is held now (held ++ left) (same ∙ ap (unread held) told) in
    ahead.1 ∙ ap (λ (t : List ℕ). Some t) (sym (append_cancel_left held left ahead.0 ahead.2))

pub bad_at_end : (start before now : Option (List ℕ)) (remains : HeaderRest) (held : Left) (place : ℕ) → unread held.bytes now ≡ unread held.bytes before → IsAtEnd now → Reached start before remains held → IsCutThere remains held place → IsBadHeader start place
bad_at_end start before now remains held place same end reached cut bytes told =
    let r = reached bytes told in
    let nothing : r.left ≡ [] = end_more now r.left (still_left before now held.bytes r.left same r.told) end in
    let all : held.bytes ++ r.left ≡ held.bytes = ap (λ (t : List ℕ). held.bytes ++ t) nothing ∙ append-nil held.bytes in
    (Cut place, at_whole bytes r.given r.left r.all ∙ r.reads r.left ∙ ap (λ (t : List ℕ). remains (seen held.place t)) all ∙ cut, refl)

some_is : (a b : List ℕ) → (let p : Option (List ℕ) = Some a in let q : Option (List ℕ) = Some b in p ≡ q) → a ≡ b
some_is a b e = cc

pub fails_there : (start before now : Option (List ℕ)) (remains : HeaderRest) (held : Left) (place : ℕ) → unread held.bytes now ≡ unread held.bytes before → held.place + length held.bytes ≤ most_bytes → Reached start before remains held → IsCutThere remains held place → FailsInHeader start now
fails_there start before now remains held place same within reached cut bytes left told now_told =
    let r = reached bytes told in
    let is : r.left ≡ left = some_is r.left left (sym (still_left before now held.bytes r.left same r.told) ∙ now_told) in (
      r.given,
      record {
        all = r.all ∙ ap (λ (t : List ℕ). r.given ++ t) is;
        within = omega (arith, r.long, within);
        cut = (
          place,
          at_whole r.given r.given [] (sym (append-nil r.given)) ∙ r.reads [] ∙ ap (λ (t : List ℕ). remains (seen held.place t)) (append-nil held.bytes) ∙ cut,
        );
      },
    )

-- ---- one look at the bytes held

-- a part that the bytes held begin with
pub record TakesPart {A : Type 0} (part : Left → Result (A × Left) Bad) (old new : Left) (x : A) : Type 0 where
  pub same : new.place + length new.bytes ≡ old.place + length old.bytes
  pub reads : part (seen old.place old.bytes) ≡ Ok (x, seen new.place new.bytes)

pub takes_part : {A : Type 0} (part : Left → Result (A × Left) Bad) (used : ℕ) (old new : Left) (visible : List ℕ) (x : A) → visible ≡ take (most_bytes - old.place) old.bytes → used ≤ length visible
    → part (record { place = old.place; bytes = visible }) ≡ Ok (x, after used (record { place = old.place; bytes = visible })) → new ≡ after used old → TakesPart part old new x
takes_part part used old new visible x is le read skip =
    let len : length visible ≤ most_bytes - old.place = omega (arith, ap length is, length-take (most_bytes - old.place) old.bytes) in
    let held : length visible ≤ length old.bytes = omega (arith, ap length is, length-take (most_bytes - old.place) old.bytes) in
    let from_seen : part (seen old.place old.bytes) ≡ Ok (x, after used (seen old.place old.bytes)) =
    subst (λ (t : List ℕ). part (record { place = old.place; bytes = t }) ≡ Ok (x, after used (record { place = old.place; bytes = t }))) is read in
    let place : new.place ≡ old.place + used = ap (λ (l : Left). l.place) skip in
    let bytes : new.bytes ≡ drop used old.bytes = ap (λ (l : Left). l.bytes) skip in
    let there : after used (seen old.place old.bytes) ≡ seen new.place new.bytes = seen_skip used old.place old.bytes (omega arith) ∙ sym (rw (place, bytes) refl) in
    record {
      same = omega (arith, place, ap length bytes, length-drop used old.bytes);
      reads = from_seen ∙ ap (λ (l : Left). Ok (x, l)) there;
    }

-- ---- what came of reading a part, after pieces came

pub part_done : {A : Type 0} (part : Left → Result (A × Left) Bad) → IsSteady part → (before now : Option (List ℕ)) (faults risen : ℕ) (old mid new : Left) (x : A) → StaysReached before now old mid → risen ≡ faults
    → TakesPart part mid new x → ReadsPart part before now faults risen old new (Ok x)
part_done part steady before now faults risen old mid new x waits same takes =
    (λ start remains reached. part_read part steady start now remains mid new x takes.same takes.reads (waits start (λ left. part left >>= remains) reached), same)

pub part_bad : {A : Type 0} (part : Left → Result (A × Left) Bad) → IsSteady part → (before now : Option (List ℕ)) (faults risen : ℕ) (old mid new : Left) (place : ℕ) → StaysReached before now old mid → risen ≡ faults
    → part (seen mid.place mid.bytes) ≡ Err (Broken place) → ReadsPart part before now faults risen old new (Err (BadHeader place))
part_bad part steady before now faults risen old mid new place waits same broken =
    (λ start remains reached. part_broken part steady start now remains mid place broken (waits start (λ left. part left >>= remains) reached), same)

pub part_ends : {A : Type 0} (part : Left → Result (A × Left) Bad) (a b c : Option (List ℕ)) (f g h : ℕ) (old mid new : Left) (place : ℕ) (error : HeaderError) → StaysReached a b old mid → g ≡ f
    → part (seen mid.place mid.bytes) ≡ Err (Cut place) → Gathers b c g h place mid new {A = Unit {0}} (Err error) → ReadsPart part a c f h old new (Err error)
part_ends part a b c f g h old mid new place (BadHeader bad) waits same cut gathers =
    (λ start remains reached. gathers.0 start (λ left. part left >>= remains) (waits start (λ left. part left >>= remains) reached) (ap (λ (q : Result (_ × Left) Bad). q >>= remains) cut), gathers.1 ∙ same)
part_ends part a b c f g h old mid new place HeaderFault waits same cut gathers =
    (λ start remains reached. gathers.0 start (λ left. part left >>= remains) (waits start (λ left. part left >>= remains) reached) (ap (λ (q : Result (_ × Left) Bad). q >>= remains) cut), subst (λ n. Rose n h) same gathers.1)
part_ends part a b c f g h old mid new place NoMemory waits same cut gathers = absurd gathers
