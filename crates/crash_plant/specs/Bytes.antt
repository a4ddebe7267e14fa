-- What a write does to the bytes of a device, and what a change of its length does.
use Rattle.std.specs.Prelude.{◌≡◌, ℕ, ◌+◌, ◌-◌, List, ◌++◌, length, take, drop, replicate}

-- these bytes, with others at a place
abbrev pub patched : ℕ → List ℕ → List ℕ → List ℕ
patched place bytes old = take place old ++ bytes ++ drop (place + length bytes) old

-- any bytes in the range of n bytes at a place, the same elsewhere
pub record Torn (place n : ℕ) (old new : List ℕ) : Type 0 where
  pub before : take place new ≡ take place old
  pub after : drop (place + n) new ≡ drop (place + n) old
  pub size : length new ≡ length old

-- these bytes, cut to a length or filled up to it with zeros
abbrev pub resized : ℕ → List ℕ → List ℕ
resized n old = take n old ++ replicate (n - length old) 0
