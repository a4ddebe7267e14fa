-- What calls on the console of a plant in memory leave.
use Rattle.std.proofs.Common.{◌≡◌, inl, inr, ℕ, ◌<◌, ◌≤◌, ◌+◌, ◌/◌, Result, Ok, Err, OnOk, OnErr, List, [], ◌∷◌, ◌++◌, length, take, drop, refl, sym, ◌∙◌, ap, arith, length-append}
use Rattle.std.proofs.lemmas.Bool.{cases_lt}
use Rattle.std.proofs.lemmas.List.{append-nil}
use Rattle.std.proofs.Math.Seq.{take-add}
use Rattle.crash_plant.specs.declared.device.Device.{Device}
use Rattle.crash_plant.specs.declared.device.Heard.{Heard}
use Rattle.crash_plant.specs.declared.device.Heard.TheVariants.{Byte, End}
use Rattle.crash_plant.specs.declared.memory_console.MemoryConsole.{MemoryConsole}
use Rattle.crash_plant.specs.declared.memory_disks.MemoryDisks.{MemoryDisks}
use Rattle.crash_plant.specs.Clock.{clock_of}
use Rattle.crash_plant.specs.Calls.{Hears, HearsNothing, Listens, Says}
use Rattle.crash_plant.specs.MemoryConsole.{HearsNext, SameMemoryConsole, Utters, heard_at, last_told, left_to_hear, said_at}
use Rattle.crash_plant.specs.MemoryPlant.{past_state}
use Rattle.crash_plant.proofs.Consoles.{heard_before, heard_before_say, heard_now, heard_same, left_same, said_before, said_before_say, said_now, said_same, told_next, told_says}

module _ (a b : MemoryDisks) (x y : MemoryConsole) (clock now : ℕ) (f g : Device → ℕ) (p q : ℕ) (later : clock ≤ now) (told : last_told x ≤ clock) where
  -- Nothing is said.
  pub says_none : (whole : List ℕ) → SameMemoryConsole x y → Says whole (past_state a x clock f p) (past_state b y now g q)
  says_none whole same = record {
    front = λ t from to. (0, omega arith, still t from ∙ sym (append-nil (said_at x clock)));
    grows = λ s t from le to. omega (arith, ap length (still s from), ap length (still t (omega (arith, from, le))));
    heard = λ t from to. heard_same x y t same ∙ heard_now x t (omega (arith, told, from)) ∙ sym (heard_now x clock told);
    script = left_same x y same;
  }
    where
      still : (t : ℕ) → clock ≤ t → said_at y t ≡ said_at x clock
      still t from = said_same x y t same ∙ said_now x t (omega (arith, told, from)) ∙ sym (said_now x clock told)

  -- A front of the bytes is said at the last moment.
  module _ (whole bytes : List ℕ) (k : ℕ) (within : k ≤ length whole) (is : bytes ≡ take k whole) (raised : clock < now) (says : Utters now bytes x y) where
    before : (t : ℕ) → clock ≤ t → t < now → said_at y t ≡ said_at x clock
    before t from early = said_before_say now bytes x y t says early ∙ said_now x t (omega (arith, told, from)) ∙ sym (said_now x clock told)

    last : last_told y ≤ now
    last = told_says now bytes x y says

    after : said_at y now ≡ said_at x clock ++ bytes
    after = said_now y now last ∙ says.said ∙ ap (λ (l : List ℕ). l ++ bytes) (sym (said_now x clock told))

    pub says_front : Says whole (past_state a x clock f p) (past_state b y now g q)
    says_front = record {
      front = λ t from to. elim (cases_lt t now) [
        | inl early ↦ (0, omega arith, before t from early ∙ sym (append-nil (said_at x clock)))
        | inr late ↦ (k, within, at_now t late to ∙ ap (λ (l : List ℕ). said_at x clock ++ l) is)
      ];
      grows = λ s t from le to. elim (cases_lt s now) [
        | inl early ↦ elim (cases_lt t now) [
          | inl soon ↦ omega (arith, ap length (before s from early), ap length (before t (omega (arith, from, le)) soon))
          | inr late ↦ omega (arith, ap length (before s from early), ap length (at_now t late to), length-append (said_at x clock) bytes)
        ]
        | inr late ↦ let same : s ≡ t = omega (arith, late, le, to) in omega (arith, ap (λ (n : ℕ). length (said_at y n)) same)
      ];
      heard = λ t from to. elim (cases_lt t now) [
        | inl early ↦ heard_before_say now bytes x y t says early ∙ heard_now x t (omega (arith, told, from)) ∙ sym (heard_now x clock told)
        | inr late ↦ heard_now y t (omega (arith, last, late)) ∙ ap (λ (n : ℕ). take n y.script) says.next ∙ ap (λ (l : List ℕ). take x.next l) says.script ∙ sym (heard_now x clock told)
      ];
      script = ap (λ (n : ℕ). drop n y.script) says.next ∙ ap (λ (l : List ℕ). drop x.next l) says.script;
    }
      where
        at_now : (t : ℕ) → now ≤ t → t ≤ now → said_at y t ≡ said_at x clock ++ bytes
        at_now t late to = let same : t ≡ now = omega (arith, late, to) in ap (λ (n : ℕ). said_at y n) same ∙ after

    pub said_all : said_at y now ≡ said_at x clock ++ bytes
    said_all = after

  -- The next byte is heard, or the end.
  pub listens_same : SameMemoryConsole x y → Listens (past_state a x clock f p) (past_state b y now g q)
  listens_same same = record {
    said = λ t from to. said_same x y t same ∙ said_now x t (omega (arith, told, from)) ∙ sym (said_now x clock told);
    heard = λ t from to. inl (heard_same x y t same ∙ heard_now x t (omega (arith, told, from)) ∙ sym (heard_now x clock told));
  }

  pub hears_none : SameMemoryConsole x y → HearsNothing (past_state a x clock f p) (past_state b y now g q)
  hears_none same = record { script = left_same x y same; heard = heard_same x y now same ∙ heard_now x now (omega (arith, told, later)) ∙ sym (heard_now x clock told) }

  pub hears : (heard : Heard) → HearsNext now x y heard → Hears (past_state a x clock f p) (past_state b y now g q) heard
  hears (Byte byte) next = (
    next.is_next ∙ ap (λ (l : List ℕ). byte ∷ l) refl,
    heard_now y now (told_next now x y (Byte byte) next (omega (arith, told, later))) ∙ ap (λ (n : ℕ). take n y.script) next.next ∙ ap (λ (l : List ℕ). take (x.next + 1) l) next.script ∙ one_more x.script x.next byte (left_to_hear y) next.is_next ∙ ap (λ (l : List ℕ). l ++ byte ∷ []) (sym (heard_now x clock told)),
  )
    where
      one_more : (script : List ℕ) (n byte : ℕ) (rest : List ℕ) → drop n script ≡ byte ∷ rest → take (n + 1) script ≡ take n script ++ byte ∷ []
      one_more script n byte rest is = take-add n 1 script ∙ ap (λ (l : List ℕ). take n script ++ take 1 l) is
  hears End next = (
    next.0,
    left_same x y next.1 ∙ next.0,
    (hears_none next.1).heard,
  )

  pub listens : (heard : Heard) → HearsNext now x y heard → Listens (past_state a x clock f p) (past_state b y now g q)
  listens (Byte byte) next = record {
    said = λ t from to. elim (cases_lt t now) [
      | inl early ↦ said_before now byte x y t next early ∙ said_now x t (omega (arith, told, from)) ∙ sym (said_now x clock told)
      | inr late ↦ said_now y t (omega (arith, last, late)) ∙ next.said ∙ sym (said_now x clock told)
    ];
    heard = λ t from to. elim (cases_lt t now) [
      | inl early ↦ inl (heard_before now byte x y t next early ∙ heard_now x t (omega (arith, told, from)) ∙ sym (heard_now x clock told))
      | inr late ↦ let same : t ≡ now = omega (arith, late, to) in inr (ap (λ (n : ℕ). heard_at y n) same)
    ];
  }
    where
      last : last_told y ≤ now
      last = told_next now x y (Byte byte) next (omega (arith, told, later))
  listens End next = listens_same next.1

  -- The past of what was heard and said.
  pub heard_past : (heard : Heard) → clock < now → HearsNext now x y heard → (t : ℕ) → t ≤ clock → heard_at y t ≡ heard_at x t
  heard_past (Byte byte) raised next t le = heard_before now byte x y t next (omega (arith, le, raised))
  heard_past End raised next t le = heard_same x y t next.1

  pub said_past : (heard : Heard) → clock < now → HearsNext now x y heard → (t : ℕ) → t ≤ clock → said_at y t ≡ said_at x t
  said_past (Byte byte) raised next t le = said_before now byte x y t next (omega (arith, le, raised))
  said_past End raised next t le = said_same x y t next.1

-- A say that fails has said the front of its bytes, or nothing.
pub says_or_not : {T E : Type 0} (a b : MemoryDisks) (x y : MemoryConsole) (clock ticks next : ℕ) (f g : Device → ℕ) (p q : ℕ) → ticks ≤ next → last_told x ≤ clock → (whole front : List ℕ) → front ≡ take (length whole / 2) whole → (result : Result T E)
    → OnOk result (Utters (clock_of next) front x y) → OnErr result (SameMemoryConsole x y) → OnOk result (next ≡ ticks + 1) → clock ≡ clock_of ticks → Says whole (past_state a x clock f p) (past_state b y (clock_of next) g q)
says_or_not a b x y clock ticks next f g p q later told whole front is (Ok r) ok err up at =
    says_front a b x y clock (clock_of next) f g p q (omega (arith, at, later)) told whole front (length whole / 2) (omega arith) is (omega (arith, at, up)) ok
says_or_not a b x y clock ticks next f g p q later told whole front is (Err e) ok err up at = says_none a b x y clock (clock_of next) f g p q (omega (arith, at, later)) told whole err

pub uttered_past : {T E : Type 0} (x y : MemoryConsole) (ticks next : ℕ) (bytes : List ℕ) (result : Result T E) → OnOk result (Utters (clock_of next) bytes x y) → OnErr result (SameMemoryConsole x y) → OnOk result (next ≡ ticks + 1)
    → (t : ℕ) → t ≤ clock_of ticks → (heard_at y t ≡ heard_at x t) × (said_at y t ≡ said_at x t)
uttered_past x y ticks next bytes (Ok r) ok err up t le = (heard_before_say (clock_of next) bytes x y t ok (omega (arith, le, up)), said_before_say (clock_of next) bytes x y t ok (omega (arith, le, up)))
uttered_past x y ticks next bytes (Err e) ok err up t le = (heard_same x y t err, said_same x y t err)
