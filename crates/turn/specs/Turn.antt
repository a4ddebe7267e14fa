-- The rule of the table, and what each step tells.
-- Tickets are numbered without end. The log has the entries of all seats in the order of their tickets, so its length is the ticket that is served.
use Rattle.std.specs.Prelude.{◌≡◌, ◌≢◌, ℕ, suc, ◌+◌, ◌-◌, ◌%◌, ◌^◌, ◌<◌, ◌≤◌, ◌⊎◌, eqb, ltb, cond, List, [], ◌∷◌, ◌++◌, length, Option, Some, None}
use mathlib.Core.Option.{some, none}
use mathlib.Core.Option as maybe
use lib.ListN.{get_elem?}
use Rattle.atomic_table.specs.Table.{State, Me}
use Rattle.atomic_table.specs.declared.shared.Seat.{Seat}
use Rattle.turn.specs.declared.view.Ticketed.{Ticketed}
use Rattle.turn.specs.declared.view.SeatStage.{SeatStage}
use Rattle.turn.specs.declared.view.SeatStage.TheVariants.{Spent, Idle, Waits, InTurn}
use Rattle.turn.specs.declared.view.View.{View}

-- f of each, added up
abbrev pub total : {A : Type 0} → (A → ℕ) → List A → ℕ
total f [] = 0
total f (x ∷ xs) = f x + total f xs

abbrev pub same : ℕ → ℕ → ℕ
same x y = cond (eqb x y) 1 0

abbrev pub once_below : ℕ → ℕ → ℕ
once_below x n = cond (ltb x n) 1 0

module _ {E R : Type 0} where
  abbrev pub ticketed : ℕ → E → R → Ticketed E R
  ticketed t e r = record { ticket = t; event = e; reply = r }

  -- how often the ticket x stands in the list
  abbrev pub times : ℕ → List (Ticketed E R) → ℕ
  times x es = total (λ e. same x e.ticket) es

  abbrev pub times_in : ℕ → List (List (Ticketed E R)) → ℕ
  times_in x ls = total (times x) ls

  -- each entry stands in the log at the place of its ticket, which is at least k, and the tickets rise
  abbrev pub InOrder : List (Ticketed E R) → ℕ → List (Ticketed E R) → Type 0
  InOrder log k [] = Unit {0}
  InOrder log k (e ∷ es) = (k ≤ e.ticket) × (get_elem? log e.ticket ≡ some e) × InOrder log (suc e.ticket) es

  abbrev pub AllInOrder : List (Ticketed E R) → List (List (Ticketed E R)) → Type 0
  AllInOrder log [] = Unit {0}
  AllInOrder log (es ∷ ls) = InOrder log 0 es × AllInOrder log ls

module _ {X E R : Type 0} (steps : X → E → R → X → Type 0) where
  -- the machine goes from x to y by these entries, one after the other
  abbrev pub ReachesBy : X → List (Ticketed E R) → X → Type 0
  ReachesBy x [] y = x ≡ y
  ReachesBy x (e ∷ es) y = (z : X) × steps x e.event e.reply z × ReachesBy z es y

  -- by some calls the machine went from the state that the table was made with to x
  pub record IsReached (first : Option X) (x : X) : Type 0 where
    pub start : X
    pub log : List (Ticketed E R)
    pub first_is : first ≡ Some start
    pub runs : ReachesBy start log x

  -- the lists of all seats are one run of the machine: the tickets are the numbers below the length of the log, each once
  pub record OneRun (x : X) (ls : List (List (Ticketed E R))) (y : X) : Type 0 where
    pub log : List (Ticketed E R)
    pub runs : ReachesBy x log y
    pub once : (t : ℕ) → times_in t ls ≡ once_below t (length log)
    pub in_order : AllInOrder log ls

module _ {X : Type 0} where
  abbrev pub lives : SeatStage X → ℕ
  lives Spent = 0
  lives Idle = 1
  lives (Waits t) = 1
  lives (InTurn t x) = 1

  -- 1 where a ticket is drawn and not passed
  abbrev pub waits : SeatStage X → ℕ
  waits Spent = 0
  waits Idle = 0
  waits (Waits t) = 1
  waits (InTurn t x) = 1

  -- 1 where that ticket is x
  abbrev pub pending : ℕ → SeatStage X → ℕ
  pending x Spent = 0
  pending x Idle = 0
  pending x (Waits t) = same x t
  pending x (InTurn t y) = same x t

module _ {N : Type 0} where
  -- the list without its second item
  abbrev pub without_second : List N → List N
  without_second [] = []
  without_second (a ∷ []) = a ∷ []
  without_second (a ∷ b ∷ ns) = a ∷ ns

  -- the second item alone
  abbrev pub second_alone : List N → List N
  second_alone [] = []
  second_alone (a ∷ []) = []
  second_alone (a ∷ b ∷ ns) = b ∷ []

  -- how many are about the part k
  abbrev pub notes_about : (N → ℕ) → ℕ → List N → ℕ
  notes_about part k ns = total (λ n. same k (part n)) ns

  abbrev pub AllTrue : {X : Type 0} → (X → N → Type 0) → X → List N → Type 0
  AllTrue says x [] = Unit {0}
  AllTrue says x (n ∷ ns) = says x n × AllTrue says x ns

abbrev pub Seated : Type 0 → Type 0 → Type 0 → Type 0 → Type 0
Seated X E R N = Me (Option X) (View X E R N)

module _ {X E R N : Type 0} where
  abbrev pub live : View X E R N → ℕ
  live v = lives v.stage

  abbrev pub busy : View X E R N → ℕ
  busy v = waits v.stage

  abbrev pub lists : View X E R N → List (List (Ticketed E R))
  lists v = v.mine ∷ v.joined

  -- how often the view has the ticket x: among its entries, and as the one that is drawn and not passed
  abbrev pub times_held : ℕ → View X E R N → ℕ
  times_held x v = times_in x (lists v) + pending x v.stage

  abbrev pub StageFits : ℕ → X → ℕ → View X E R N → SeatStage X → Type 0
  StageFits serving due next v Spent = (v.mine ≡ []) × (v.joined ≡ [])
  StageFits serving due next v Idle = Unit {0}
  StageFits serving due next v (Waits t) = (serving ≤ t) × (t < next)
  StageFits serving due next v (InTurn t x) = (t ≡ serving) × (x ≡ due)

  -- how many notes are about the part k of the state
  abbrev pub about : (N → ℕ) → ℕ → View X E R N → ℕ
  about part k v = notes_about part k v.notes

  abbrev pub IsViewAt : List (Ticketed E R) → X → ℕ → View X E R N → Type 0
  IsViewAt log due next v = AllInOrder log (lists v) × StageFits (length log) due next v v.stage

  -- the slot is at home with the state that is due, or with the one seat that is in its turn
  abbrev pub Placed : ℕ → X → List (maybe.Option (Option X)) → List (View X E R N) → Type 0
  Placed serving due homes views = (homes ≡ some (Some due) ∷ []) ⊎ ((homes ≡ none ∷ []) × ((j : ℕ) × (v : View X E R N) × (get_elem? views j ≡ some v) × (v.stage ≡ InTurn serving due)))

  pub record Turns (steps : X → E → R → X → Type 0) (part : N → ℕ) (says : X → N → Type 0) (first : X) (s : State (Option X) (View X E R N)) : Type 0 where
    pub log : List (Ticketed E R)
    pub due : X
    pub next : ℕ
    pub words : s.words ≡ (next % 2 ^ 64) ∷ (length log % 2 ^ 64) ∷ []
    pub runs : ReachesBy steps first log due
    pub placed : Placed (length log) due s.homes s.views
    -- each ticket below the next one is in one view once
    pub once : (x : ℕ) → total (times_held x) s.views ≡ once_below x next
    pub waiting : total busy s.views + length log ≡ next
    pub few : total live s.views ≤ 17
    pub counted : (v : View X E R N) → get_elem? s.views 0 ≡ some v → v.seats ≡ total live s.views
    pub each : (j : ℕ) (v : View X E R N) → get_elem? s.views j ≡ some v → IsViewAt log due next v
    -- what a view notes of the state is true of the state that is due, and no two notes are about one part of it
    pub noted : (j : ℕ) (v : View X E R N) → get_elem? s.views j ≡ some v → AllTrue says due v.notes
    pub apart : (k : ℕ) → total (about part k) s.views ≤ 1
    pub begun : (j : ℕ) (v : View X E R N) → get_elem? s.views j ≡ some v → live v ≡ 1 → v.first ≡ Some first

  -- the mover's view at the start: it has the notes of all seats, its own first
  abbrev pub first_view : X → List N → View X E R N
  first_view x ns = record { first = Some x; stage = Idle; mine = []; joined = []; seats = 1; notes = ns }

  -- the view of a new seat, which gets the mover's second note
  abbrev pub new_view : View X E R N → View X E R N
  new_view v = record { first = v.first; stage = Idle; mine = []; joined = []; seats = 0; notes = second_alone v.notes }

  abbrev pub spent_view : View X E R N
  spent_view = record { first = None; stage = Spent; mine = []; joined = []; seats = 0; notes = [] }

  abbrev pub with_one_more : View X E R N → View X E R N
  with_one_more v = record { first = v.first; stage = v.stage; mine = v.mine; joined = v.joined; seats = v.seats + 1; notes = without_second v.notes }

  -- the lists of w go over to v
  abbrev pub joined_view : View X E R N → View X E R N → View X E R N
  joined_view v w = record { first = v.first; stage = v.stage; mine = v.mine; joined = w.mine ∷ w.joined ++ v.joined; seats = v.seats - 1; notes = v.notes ++ w.notes }

  abbrev pub staged : View X E R N → SeatStage X → View X E R N
  staged v st = record { first = v.first; stage = st; mine = v.mine; joined = v.joined; seats = v.seats; notes = v.notes }

  abbrev pub with_ticketed : View X E R N → Ticketed E R → N → View X E R N
  with_ticketed v e n = record { first = v.first; stage = Idle; mine = v.mine ++ e ∷ []; joined = v.joined; seats = v.seats; notes = n ∷ [] }

  abbrev pub at_draw : Seated X E R N → ℕ → Seated X E R N → Type 0
  at_draw m n m' = (t : ℕ) × (n ≡ t % 2 ^ 64) × (m' ≡ (staged m.0 (Waits t), m.1))

  -- the ticket is drawn where it is the next one
  abbrev pub at_draw_if : (ticket : ℕ) → Seated X E R N → ℕ → Seated X E R N → Type 0
  at_draw_if ticket m n m' = (n ≡ ticket → at_draw m n m') × (¬ (n ≡ ticket) → m' ≡ m)

  abbrev pub at_look : (X → E → R → X → Type 0) → (X → N → Type 0) → Seated X E R N → ℕ → Seated X E R N → Type 0
  at_look steps says m n m' = (t : ℕ) → m.0.stage ≡ Waits t
      → (n ≡ t % 2 ^ 64 → (x : X) × (m' ≡ (staged m.0 (InTurn t x), (0, Some x) ∷ m.1)) × AllTrue says x m.0.notes × IsReached steps m.0.first x) × (¬ (n ≡ t % 2 ^ 64) → m' ≡ m)

  abbrev pub at_pass : E → R → N → Seated X E R N → ℕ → Seated X E R N → Type 0
  at_pass e r note m n m' = (t : ℕ) (x : X) → m.0.stage ≡ InTurn t x → m' ≡ (with_ticketed m.0 (ticketed t e r) note, [])

  -- it holds no slot and no ticket
  abbrev pub IsIdle : Seated X E R N → Type 0
  IsIdle m = (m.0.stage ≡ Idle) × (m.1 ≡ [])

  abbrev pub IsSameSeat : Seat (Option X) (View X E R N) → Seat (Option X) (View X E R N) → Type 0
  IsSameSeat p q = (q.table_id ≡ p.table_id) × (q.id ≡ p.id)

  -- The seat's ticket is served: the slot is out with the seat, and the state that came with it is the one of which its notes are true.
  abbrev pub IsServed : (X → E → R → X → Type 0) → (X → N → Type 0) → Seat (Option X) (View X E R N) → Seat (Option X) (View X E R N) → Type 0
  IsServed steps says p q = (t : ℕ) × (x : X) × (q.me ≡ (staged p.me.0 (InTurn t x), (0, Some x) ∷ [])) × AllTrue says x p.me.0.notes × IsReached steps p.me.0.first x

  -- the seat p took its turn, and the state x out of the slot
  pub record Took (steps : X → E → R → X → Type 0) (says : X → N → Type 0) (p : Seat (Option X) (View X E R N)) (x : X) (q : Seat (Option X) (View X E R N)) : Type 0 where
    pub ticket : ℕ
    pub me : q.me ≡ (staged p.me.0 (InTurn ticket x), (0, None) ∷ [])
    pub noted : AllTrue says x p.me.0.notes
    pub reached : IsReached steps p.me.0.first x

  -- the machine went from the state that the seat took to y; the seat's one note becomes n, and what is said of other parts stays true
  pub record MayPass (steps : X → E → R → X → Type 0) (part : N → ℕ) (says : X → N → Type 0) (q : Seat (Option X) (View X E R N)) (e : E) (r : R) (n : N) (y : X) : Type 0 where
    pub ticket : ℕ
    pub state : X
    pub old : N
    pub notes : q.me.0.notes ≡ old ∷ []
    pub same_part : part n ≡ part old
    pub true_then : says y n
    pub others : (u : N) → part u ≢ part old → says state u → says y u
    pub stage : q.me.0.stage ≡ InTurn ticket state
    pub carried : q.me.1 ≡ (0, None) ∷ []
    pub did : steps state e r y

  pub record HasPassed (q : Seat (Option X) (View X E R N)) (e : E) (r : R) (n : N) (s : Seat (Option X) (View X E R N)) : Type 0 where
    pub ticket : ℕ
    pub me : s.me ≡ (with_ticketed q.me.0 (ticketed ticket e r) n, [])

  -- One more call, with some ticket, stands after those that the seat made, and n is its note. All else of the seat is as before.
  pub record HasCalled (p : Seat (Option X) (View X E R N)) (e : E) (r : R) (n : N) (s : Seat (Option X) (View X E R N)) : Type 0 where
    pub same_seat : IsSameSeat p s
    pub ticket : ℕ
    pub me : s.me ≡ (with_ticketed p.me.0 (ticketed ticket e r) n, [])
