-- One more piece that is copied into the blocks of a run, or out of them.
use Rattle.std.proofs.Common.{◌≡◌, ◌≢◌, ℕ, suc, ◌+◌, ◌-◌, ◌*◌, ◌<◌, ◌≤◌, List, ◌++◌, length, take, drop, min, sym, refl, ◌∙◌, ap, arith, inl, inr, length-take, length-drop, length-append}
use Rattle.std.proofs.Math.Seq.{take-add}
use Rattle.std.proofs.lemmas.Bool.{cases_lt}
use Rattle.std.proofs.lemmas.List.{take_all}
use Rattle.std.proofs.lemmas.Slice.{take-put_mid}
use borrow.Rule.Slice.PartMut.{put_mid}
use Rattle.block_region.specs.Blocks.{blocks_of, block_at}
use Rattle.block_region.specs.Runs.{hop, gathered, IsRun}
use Rattle.block_region.proofs.BlockLaws.{short_take, put_at, put_here, put_elsewhere, length-put}
use Rattle.block_region.proofs.RunLaws.{same_gathered}

-- the piece of some bytes that goes into the block at a place
pub piece_at : (bytes : List ℕ) (n end : ℕ) → end ≡ min (512 * n + 512) (length bytes) → 512 * n ≤ length bytes
    → (length (take (end - 512 * n) (drop (512 * n) bytes)) ≡ min (length bytes - 512 * n) 512)
    × (take (512 * suc n) bytes ≡ take (512 * n) bytes ++ take (end - 512 * n) (drop (512 * n) bytes))
piece_at bytes n end is le = (
  omega (arith, length-take (end - 512 * n) (drop (512 * n) bytes), length-drop (512 * n) bytes),
  ap (λ k. take k bytes) next_end ∙ take-add (512 * n) 512 bytes ∙ ap (λ (t : List ℕ). take (512 * n) bytes ++ t) whole,
)
  where
    next_end : 512 * suc n ≡ 512 * n + 512
    next_end = omega arith

    rest : List ℕ
    rest = drop (512 * n) bytes

    to_end : 512 * n + 512 ≤ length bytes → 512 ≡ end - 512 * n
    to_end le = omega arith

    whole : take 512 rest ≡ take (end - 512 * n) rest
    whole = elim (cases_lt (length bytes) (512 * n + 512)) [
      | inl short ↦ take_all 512 rest (omega (arith, length-drop (512 * n) bytes)) ∙ sym (take_all (end - 512 * n) rest (omega (arith, length-drop (512 * n) bytes)))
      | inr long ↦ ap (λ k. take k rest) (to_end long)
    ]

-- What a run holds so far, with one more piece put into its next block.
pub filled_more : (old next bytes piece : List ℕ) (first n : ℕ) → length old ≡ 512 * length next → IsRun next first (blocks_of (length bytes)) → n < blocks_of (length bytes)
    → length piece ≡ min (length bytes - 512 * n) 512
    → gathered (put_at (512 * hop next n first) piece old) next first (length bytes) (suc n) ≡ gathered old next first (length bytes) n ++ piece
filled_more old next bytes piece first n sized run lt is =
    ap (λ (t : List ℕ). t ++ take (length bytes - 512 * n) (block_at new (hop next n first))) before
    ∙ ap (λ (t : List ℕ). gathered old next first (length bytes) n ++ t) (put_here (hop next n first) (length bytes - 512 * n) piece old fits is)
  where
    new : List ℕ
    new = put_at (512 * hop next n first) piece old

    inside : hop next n first < length next
    inside = run.within n lt

    fits : 512 * hop next n first ≤ length old
    fits = omega arith

    short : length piece ≤ 512
    short = omega arith

    before : gathered new next first (length bytes) n ≡ gathered old next first (length bytes) n
    before = same_gathered old new next next first (length bytes) n (λ k below. refl)
        (λ k below. put_elsewhere (hop next n first) (hop next k first) piece old (λ same. absurd (omega (arith, run.apart k n (omega arith) lt same))) short fits)

-- What was read so far, with one more piece.
pub read_more : (blocks next out : List ℕ) (first n end : ℕ) → n < blocks_of (length out) → end ≡ min (512 * n + 512) (length out)
    → length blocks ≡ 512 * length next → hop next n first < length next
    → take (512 * n) out ≡ gathered blocks next first (length out) n
    → take (512 * suc n) (put_mid (512 * n) (end - 512 * n) out (take (end - 512 * n) (drop (512 * hop next n first) blocks))) ≡ gathered blocks next first (length out) (suc n)
read_more blocks next out first n end lt is sized inside before = all_of_it ∙ take-put_mid (512 * n) (end - 512 * n) out piece end (omega (arith, length_piece)) (omega arith)
    ∙ ap (λ (t : List ℕ). t ++ piece) before
    ∙ ap (λ (t : List ℕ). gathered blocks next first (length out) n ++ t) (sym (short_take (length out - 512 * n) (end - 512 * n) 512 (drop (512 * hop next n first) blocks) (omega arith)))
  where
    piece : List ℕ
    piece = take (end - 512 * n) (drop (512 * hop next n first) blocks)

    length_piece : length piece ≡ end - 512 * n
    length_piece = omega (arith, length-take (end - 512 * n) (drop (512 * hop next n first) blocks), length-drop (512 * hop next n first) blocks)

    new : List ℕ
    new = put_mid (512 * n) (end - 512 * n) out piece

    length_new : length new ≡ length out
    length_new =
        omega (
          arith,
          length-append (take (512 * n) out) (piece ++ drop (end - 512 * n) (drop (512 * n) out)),
          length-append piece (drop (end - 512 * n) (drop (512 * n) out)),
          length-take (512 * n) out,
          length-drop (end - 512 * n) (drop (512 * n) out),
          length-drop (512 * n) out,
          length_piece,
        )

    to_end : 512 * n + 512 ≤ length out → 512 * suc n ≡ end
    to_end le = omega arith

    all_of_it : take (512 * suc n) new ≡ take end new
    all_of_it = elim (cases_lt (length out) (512 * n + 512)) [
      | inl short ↦ take_all (512 * suc n) new (omega (arith, length_new)) ∙ sym (take_all end new (omega (arith, length_new)))
      | inr long ↦ ap (λ k. take k new) (to_end long)
    ]

-- the step of the loop that fills a run
pub record FilledMore (old new next bytes : List ℕ) (first n more : ℕ) : Type 0 where
  pub len : length new ≡ length old
  pub filled : gathered new next first (length bytes) more ≡ take (512 * more) bytes
  pub others : (other : ℕ) → other ≢ hop next n first → block_at new other ≡ block_at old other

pub fill_step : (old new next bytes : List ℕ) (first n more block end : ℕ) → more ≡ suc n → length old ≡ 512 * length next → IsRun next first (blocks_of (length bytes)) → n < blocks_of (length bytes)
    → block ≡ hop next n first → end ≡ min (512 * n + 512) (length bytes)
    → new ≡ put_at (512 * block) (take (end - 512 * n) (drop (512 * n) bytes)) old
    → gathered old next first (length bytes) n ≡ take (512 * n) bytes
    → FilledMore old new next bytes first n more
fill_step old new next bytes first n more block end more_is sized run lt at is put before = record {
  len = ap length put_there ∙ length-put (512 * here) piece old (omega (arith, parts.0, inside));
  filled = ap (λ k. gathered new next first (length bytes) k) more_is
      ∙ ap (λ (t : List ℕ). gathered t next first (length bytes) (suc n)) put_there
      ∙ filled_more old next bytes piece first n sized run lt parts.0
      ∙ ap (λ (t : List ℕ). t ++ piece) before
      ∙ sym parts.1 ∙ ap (λ k. take (512 * k) bytes) (sym more_is);
  others = λ other apart. ap (λ (t : List ℕ). block_at t other) put_there ∙ put_elsewhere here other piece old apart (omega (arith, parts.0)) (omega arith);
}
  where
    here : ℕ
    here = hop next n first

    piece : List ℕ
    piece = take (end - 512 * n) (drop (512 * n) bytes)

    put_there : new ≡ put_at (512 * here) piece old
    put_there = put ∙ ap (λ b. put_at (512 * b) piece old) at

    inside : here < length next
    inside = run.within n lt

    parts : (length piece ≡ min (length bytes - 512 * n) 512) × (take (512 * suc n) bytes ≡ take (512 * n) bytes ++ piece)
    parts = piece_at bytes n end is (omega arith)

-- the step of the loop that reads one
pub read_step : (blocks next out piece : List ℕ) (first n more block end len : ℕ) → more ≡ suc n → len ≡ length out → n < blocks_of len → end ≡ min (512 * n + 512) (length out)
    → length blocks ≡ 512 * length next → IsRun next first (blocks_of len) → block ≡ hop next n first
    → piece ≡ take (end - 512 * n) (drop (512 * block) blocks)
    → take (512 * n) out ≡ gathered blocks next first len n
    → take (512 * more) (put_mid (512 * n) (end - 512 * n) out piece) ≡ gathered blocks next first len more
read_step blocks next out piece first n more block end len more_is same lt is sized run at piece_is before =
    ap (λ k. take (512 * k) (put_mid (512 * n) (end - 512 * n) out piece)) more_is
    ∙ ap (λ (t : List ℕ). take (512 * suc n) (put_mid (512 * n) (end - 512 * n) out t)) (piece_is ∙ ap (λ b. take (end - 512 * n) (drop (512 * b) blocks)) at)
    ∙ read_more blocks next out first n end (omega arith) is sized (run.within n lt) (before ∙ ap (λ m. gathered blocks next first m n) same)
    ∙ ap (λ m. gathered blocks next first m (suc n)) (sym same) ∙ ap (λ k. gathered blocks next first len k) (sym more_is)
