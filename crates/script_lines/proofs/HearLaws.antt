-- What hearing a line does, byte by byte.
use Rattle.std.proofs.Common.{◌≡◌, inl, inr, ℕ, ◌≤◌, List, ◌++◌, false, sym, subst, ◌∙◌, append-nil, arith}
use Rattle.std.proofs.lemmas.Bool.{cases_lt}
use Rattle.crash_plant.specs.declared.device.Device.TheVariants.{Control}
use Rattle.crash_plant.specs.declared.device.Heard.{Heard}
use Rattle.crash_plant.specs.declared.device.Heard.TheVariants.{Byte, End}
use Rattle.crash_plant.specs.Calls.{Hears, HearsNothing, Listens, WorksOnConsole}
use Rattle.crash_plant.specs.Moments.{PlantState}
use Rattle.consistency.specs.Keeping.{Keeps}
use Rattle.consistency.proofs.Keeping.{keeps_hears, keeps_hears_end, keeps_hears_nothing}
use Rattle.consistency.proofs.Lines.{one_line_more}
use Rattle.script_lines.specs.Hearing.{KeepsHearing, SaysNothing}
use Rattle.script_lines.specs.Texts.{bytes_of, has_feed}

-- ---- runs

-- A run goes on through one call more.
pub keeps_more : (tells : Type 0) (told : tells) (text : List ℕ) (heard : Heard) (first old new : PlantState) → has_feed text ≡ false → WorksOnConsole tells old new → Listens old new → Hears old new heard → KeepsHearing text (text ++ bytes_of heard) first old new
keeps_more tells told text (Byte b) first old new none works listens hears run lines up kept =
    keeps_hears run lines text first old new up kept tells told works listens b hears (one_line_more text b none)
keeps_more tells told text End first old new none works listens hears run lines up kept =
    subst (λ (l : List ℕ). Keeps run lines l first new) (sym (append-nil text)) (keeps_hears_end run lines text first old new up kept tells told works listens hears)

-- And through one that failed.
pub keeps_still : (tells : Type 0) (told : tells) (text : List ℕ) (first old new : PlantState) → WorksOnConsole tells old new → Listens old new → HearsNothing old new → KeepsHearing text text first old new
keeps_still tells told text first old new works listens nothing run lines up kept = keeps_hears_nothing run lines text first old new up kept tells told works listens nothing

-- ---- what is said

-- Nothing is said in two calls that say nothing.
pub silent_then : (tells : Type 0) → tells → (a b c : PlantState) → WorksOnConsole tells a b → WorksOnConsole tells b c → SaysNothing a b → SaysNothing b c → SaysNothing a c
silent_then tells told a b c before after first second t from to =
    let later : a.clock ≤ b.clock = ((before.elapses told).kept Control).later in
    elim (cases_lt t b.clock) [
      | inl early ↦ (after.elapses told).said t (omega (arith, from, early)) (omega (arith, early)) ∙ first t from (omega (arith, early))
      | inr late ↦ second t late to ∙ first b.clock later (omega arith)
    ]
