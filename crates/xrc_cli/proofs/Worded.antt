-- The words of a command line, one by one.
use Rattle.std.proofs.Common.{◌≡◌, ℕ, ◌<◌, ◌≤◌, Bool, true, false, List, [], ◌∷◌, length, get_or, Some, None, Result, Ok, Err, refl, sym, ap, ◌∙◌, arith}
use Rattle.std.specs.Prelude.{bytes_eq, codes, map, if◌then◌else◌}
use Rattle.std.specs.Result.{result_ok}
use Rattle.tod_stamp.specs.declared.name_error.NameError.{NameError}
use Rattle.tod_stamp.specs.Names.{is_serial, is_session, name_of}
use Rattle.xrc_cli.specs.Words.{asked_by_words, asked_init, cylinders_named, device_of}
use Rattle.tod_stamp.proofs.NameLaws.{names_are_read, read_are_names}

-- a name is read exactly where it is a session
pub session_read : (bytes : List ℕ) (r : Result (List ℕ) NameError) (valid : Bool) → name_of 8 bytes ≡ r → is_session bytes ≡ valid → result_ok r ≡ (if valid then Some bytes else None)
session_read bytes r true is e = ap result_ok (sym is ∙ names_are_read 8 bytes e)
session_read bytes (Err error) false is e = refl
session_read bytes (Ok name) false is e = absurd (clash (read_are_names 8 bytes name is))
  where
    clash : (name ≡ bytes) × (is_session name ≡ true) → ⊥
    clash p = let h = p.0 in let k = p.1 in cc

-- and a serial where it is one
pub serial_read : (bytes : List ℕ) (r : Result (List ℕ) NameError) (valid : Bool) → name_of 6 bytes ≡ r → is_serial bytes ≡ valid → result_ok r ≡ (if valid then Some bytes else None)
serial_read bytes r true is e = ap result_ok (sym is ∙ names_are_read 6 bytes e)
serial_read bytes (Err error) false is e = refl
serial_read bytes (Ok name) false is e = absurd (clash (read_are_names 6 bytes name is))
  where
    clash : (name ≡ bytes) × (is_serial name ≡ true) → ⊥
    clash p = let h = p.0 in let k = p.1 in cc

-- ---- other words

pub few : {A : Type 0} (text : A → List ℕ) (words : List A) → length words < 2 → None ≡ asked_by_words (map text words)
few text [] low = refl
few text (a ∷ []) low = refl
few text (a ∷ b ∷ words) low = absurd (omega arith)

pub many : {A : Type 0} (text : A → List ℕ) (words : List A) → 5 ≤ length words → None ≡ asked_by_words (map text words)
many text [] high = absurd (omega arith)
many text (a ∷ []) high = absurd (omega arith)
many text (a ∷ b ∷ []) high = absurd (omega arith)
many text (a ∷ b ∷ c ∷ []) high = absurd (omega arith)
many text (a ∷ b ∷ c ∷ d ∷ []) high = absurd (omega arith)
many text (a ∷ b ∷ c ∷ d ∷ e ∷ words) high = refl

-- four that begin with another than that of a label
pub no_init : {A : Type 0} (text : A → List ℕ) (words : List A) (x : A) → length words ≡ 4 → x ≡ get_or words 0 x → bytes_eq (text x) (codes "init") ≡ false → None ≡ asked_by_words (map text words)
no_init text [] x is e differs = absurd (omega arith)
no_init text (a ∷ []) x is e differs = absurd (omega arith)
no_init text (a ∷ b ∷ []) x is e differs = absurd (omega arith)
no_init text (a ∷ b ∷ c ∷ []) x is e differs = absurd (omega arith)
no_init text (a ∷ b ∷ c ∷ d ∷ []) x is e differs = sym (ap (λ t. if t then asked_init (text c) (device_of (text b)) (cylinders_named (text d)) else None) (ap (λ w. bytes_eq (text w) (codes "init")) (sym e) ∙ differs))
no_init text (a ∷ b ∷ c ∷ d ∷ f ∷ words) x is e differs = absurd (omega arith)
