-- The moments of a record that is put behind a gate that isn't 1, over plain states.
use Rattle.std.proofs.Common.{◌≡◌, ◌≢◌, ℕ, ◌+◌, ◌≤◌, ◌<◌, List, ◌∷◌, ◌++◌, length, take, drop, slice_index, sym, ap, ◌∙◌, arith, append_assoc, length-take}
use Rattle.std.proofs.lemmas.List.{drop_at, get_or-drop}
use Rattle.crash_plant.specs.Bytes.{patched, Torn}
use Rattle.crash_plant.specs.Moments.{Standing, SamePast, Follows}
use Rattle.crash_plant.proofs.Patches.{patched_torn, torn_more, torn_twice}
use Rattle.crash_plant.proofs.Steps.{follows_then}
use Rattle.crash_plant.proofs.BehindGates.{byte_before, from_gate, torn_again, torn_here}
use Rattle.xrc_journal.specs.Appending.{IsShutAt, PutsRecord}

-- the first byte of what was written at a place
pub byte_of_patched : (place n : ℕ) (behind b : List ℕ) → place ≤ length b → slice_index (patched place (n ∷ behind) b) place ≡ n
byte_of_patched place n behind b within =
    let c = patched place (n ∷ behind) b in
    ap (λ (k : ℕ). slice_index c k) (omega arith) ∙ sym (get_or-drop place c 0 0)
    ∙ ap (λ (l : List ℕ). slice_index l 0)
    (ap (λ (l : List ℕ). drop place l) (append_assoc (take place b) (n ∷ behind) (drop (place + length (n ∷ behind)) b)) ∙ drop_at (take place b) ((n ∷ behind) ++ drop (place + length (n ∷ behind)) b) place (omega (arith, length-take place b, within)))

module _ (size needed place : ℕ) (behind : List ℕ) where
  -- while it is written behind the gate
  puts_staged : (b c : List ℕ) → slice_index b place ≢ 1 → Torn (place + 1) (length behind) b c → PutsRecord size needed place behind b c
  puts_staged b c shut torn = record { torn = torn_twice place 1 (length behind) b b c (torn_here place 1 b) torn; long = λ is. absurd (still is); room = λ is. absurd (still is); stands = λ is. absurd (still is) }
    where
      still : slice_index c place ≢ 1
      still is = shut (sym (byte_before place (length behind) b c torn) ∙ is)

  -- while the gate is opened
  puts_opened : (rest b y c : List ℕ) → length y ≡ size → place < size → place + needed ≤ size → Torn (place + 1) (length behind) b y → drop (place + 1) y ≡ behind ++ rest → Torn place 1 y c → PutsRecord size needed place behind b c
  puts_opened rest b y c long within fits torn stands gate = record {
    torn = torn_again place (1 + length behind) b y c (torn_twice place 1 (length behind) b b y (torn_here place 1 b) torn) (torn_more place 1 (length behind) y c gate);
    long = λ is. gate.size ∙ long;
    room = λ is. fits;
    stands = λ is. (rest, from_gate place c (omega (arith, within, long, gate.size)) ∙ ap (λ (n : ℕ). n ∷ drop (place + 1) c) is ∙ ap (λ (l : List ℕ). 1 ∷ l) (gate.after ∙ stands));
  }

  pub follows_staged : (a d : Standing) → IsShutAt place a → Follows (Torn (place + 1) (length behind)) a d → Follows (PutsRecord size needed place behind) a d
  follows_staged a d shut torn t since to c left = let start = torn t since to c left in (start.0, start.1, puts_staged start.0 c (shut start.0 start.1) start.2)

  -- what is read, once it is written behind the gate
  module _ (b y : List ℕ) (long : length b ≡ size) (range : place + 1 + length behind ≤ size) (fits : place + needed ≤ size) (is : y ≡ patched (place + 1) behind b) where
    after_stands : drop (place + 1) y ≡ behind ++ drop (place + 1 + length behind) b
    after_stands = ap (λ (l : List ℕ). drop (place + 1) l) (is ∙ append_assoc (take (place + 1) b) behind (drop (place + 1 + length behind) b))
        ∙ drop_at (take (place + 1) b) (behind ++ drop (place + 1 + length behind) b) (place + 1) (omega (arith, length-take (place + 1) b, range, long))

    same_size : length y ≡ size
    same_size = (patched_torn (place + 1) behind b y (omega (arith, range, long)) is).size ∙ long

    pub follows_opened : (a d e : Standing) → IsShutAt place a → SamePast a d → Follows (Torn (place + 1) (length behind)) a d → ((x : List ℕ) → d.images d.clock x → x ≡ y) → SamePast d e → Follows (Torn place 1) d e → Follows (PutsRecord size needed place behind) a e
    follows_opened a d e shut past torn durable kept gate = follows_then a d e (Torn (place + 1) (length behind)) (Torn place 1) (PutsRecord size needed place behind) past.later torn kept gate
        (λ x z here first. puts_staged x z (shut x here) first)
        (λ x z w here there first second.
        puts_opened (drop (place + 1 + length behind) b) x z w (ap length (durable z there) ∙ same_size) (omega (arith, range)) fits first (ap (λ (l : List ℕ). drop (place + 1) l) (durable z there) ∙ after_stands) second)
