-- What a crash may leave while a session begins, over calls in turn.
use Rattle.std.proofs.Common.{◌≡◌, ◌≢◌, ◌⊎◌, inl, inr, ℕ, ◌<◌, ◌≤◌, Bool, true, false, true≢false, List, [], ◌++◌, Option, Some, None, refl, sym, ap, subst, ◌∙◌, append_assoc, append-nil, arith}
use Rattle.std.specs.Prelude.{IfSome, MatchOption, bytes_eq}
use Rattle.std.proofs.lemmas.Bool.{cases_lt}
use Rattle.std.proofs.lemmas.Slice.Eq.{bytes_eq-Decides}
use Rattle.crash_plant.specs.declared.device.Device.TheVariants.{Control, Volume}
use Rattle.crash_plant.specs.Calls.{Elapses, SameSite, Silent, WorksOnConsole}
use Rattle.crash_plant.specs.Choices.{AtMoment, AtNow, Choice, IsChoice}
use Rattle.crash_plant.specs.Moments.{IsDurable, PlantState, on}
use Rattle.crash_plant.proofs.Choices.{part_still, past_choice}
use Rattle.crash_plant.proofs.Steps.{stays_here}
use Rattle.control_set.specs.Slots.{lengths_of}
use Rattle.control_set.proofs.Lengths.{same_lengths}
use Rattle.pair_table.specs.declared.level.Level.{Level}
use Rattle.sidefile.specs.Breaks.{stamp}
use Rattle.site_means.specs.Images.{Shape}
use Rattle.site_means.specs.Meaning.{chosen_in}
use Rattle.site_means.specs.Sight.{means_of}
use Rattle.site_means.proofs.Goes.{shape_same}
use Rattle.xrc_command.specs.declared.line.Line.{Line}
use Rattle.site_store.specs.Formats.{started_means}
use Rattle.site_store.specs.Records.{VolumesStay}
use Rattle.site_store.specs.Sites.{SiteState}
use Rattle.site_store.proofs.Fresh.{first_here}
use Rattle.site_store.proofs.Seeing.{same_means}
use Rattle.consistency.specs.Courses.{Answered, texts_of}
use Rattle.consistency.proofs.Standing.{console_choice}
use Rattle.xrc_session.specs.Frames.{SaidGrows}
use Rattle.xrc_session.specs.LinePauses.{LeavesAll}
use Rattle.xrc_session.specs.Starting.{BeginsByLine, BeginsRun, BeginsSafely, FormatsFirst, HasBegunRun, HasRepliedToStart, HasStartedRun, HearsStart, IsSafeNow, IsSafeUpTo, IsStartOfScript, IsUnsaid, LeavesVolumes, MeansStart, ShutsOrStarts, ShutsSite, StandsAfterStart, StartsAfter, StartsSafely, level_started, reply_to_start}
use Rattle.xrc_session.specs.Starting.BeginsRun.{Starting, Unstarted}
use Rattle.xrc_session.proofs.Consoles.{stays_then}
use Rattle.xrc_session.proofs.Started.{formats_on}

-- ---- devices that are left alone

-- Each choice of each moment is one from the beginning on.
pub leaves_choice : (old new : PlantState) → SameSite old new → LeavesAll old new → (t : ℕ) → old.clock ≤ t → t ≤ new.clock → (c : Choice) → IsChoice new t c → IsChoice old old.clock c
leaves_choice old new site leaves t from to c is d part =
    let start = (leaves d).images t from to (c d) (is d (part_still old new d site part)) in
    subst (λ (l : List ℕ). old.images old.clock d l) (sym start.2) start.1

pub leaves_then : (a b c : PlantState) → a.clock ≤ b.clock → LeavesAll a b → Elapses b c → LeavesAll b c → LeavesAll a c
leaves_then a b c later x past y d = stays_then (on a d) (on b d) (on c d) later (x d) (past.kept d) (y d)

pub leaves_here : (a : PlantState) → LeavesAll a a
leaves_here a d = stays_here (on a d)

pub leaves_console : (tells : Type 0) (a b : PlantState) → tells → WorksOnConsole tells a b → LeavesAll a b
leaves_console tells a b told works d = works.devices told d

pub durable_still : (old new : PlantState) → old.clock ≤ new.clock → LeavesAll old new → IsDurable (on old Control) → IsDurable (on new Control)
durable_still old new later leaves durable c left =
    let start = (leaves Control).images new.clock later (omega arith) c left in
    start.2 ∙ durable start.0 start.1 ∙ sym (leaves Control).bytes

-- What a crash leaves then of a volume it could leave before.
image_left : (old new : PlantState) → old.clock ≤ new.clock → LeavesAll old new → (d : ℕ) (c : List ℕ) → new.images new.clock (Volume d) c → old.images old.clock (Volume d) c
image_left old new later leaves d c is =
    let start = (leaves (Volume d)).images new.clock later (omega arith) c is in
    subst (λ (l : List ℕ). old.images old.clock (Volume d) l) (sym start.2) start.1

-- ---- what is safe

-- A site that is left alone is shut as far as it was.
shut_here : (lengths : List ℕ) (c : Choice) → ShutsSite lengths c c
shut_here lengths c = record { first = first_here lengths c; journals = λ j after. refl }

module _ (session : List ℕ) (level : Level) (at : ℕ) where
  -- What was said of one plant is said of another with the same numbers and lengths.
  starts_same : (old mid : PlantState) → SameSite old mid → (b c : Choice) → ShutsOrStarts session level at mid b c → ShutsOrStarts session level at old b c
  starts_same old mid site b c (inl shuts) = inl (subst (λ (l : List ℕ). ShutsSite l b c) (same_lengths old mid site) shuts)
  starts_same old mid site b c (inr starts) =
      inr (record {
        means = starts.means;
        defined = sym (same_means old mid site c) ∙ starts.defined;
        session_is = starts.session_is;
        level_is = starts.level_is;
        time = starts.time;
        rows = starts.rows;
        ended = starts.ended;
      })

  pub means_same : (old mid : PlantState) → SameSite old mid → (c : Choice) → MeansStart session level at mid c → MeansStart session level at old c
  means_same old mid site c starts = record {
    means = starts.means;
    defined = sym (same_means old mid site c) ∙ starts.defined;
    session_is = starts.session_is;
    level_is = starts.level_is;
    time = starts.time;
    rows = starts.rows;
    ended = starts.ended;
  }

  -- It is safe to leave the devices alone.
  pub safe_here : (old new : PlantState) → SameSite old new → LeavesAll old new → IsSafeUpTo session level at new.clock old new
  safe_here old new site leaves t from to c is = (c, leaves_choice old new site leaves t from to c is, inl (shut_here (lengths_of old) c))

  -- It stays safe while the devices are left alone after that.
  pub safe_then : (old mid new : PlantState) → old.clock ≤ mid.clock → 0 < mid.clock → SameSite mid new → Elapses mid new → LeavesAll mid new → IsSafeUpTo session level at mid.clock old mid → IsSafeUpTo session level at new.clock old new
  safe_then old mid new later up site past leaves safe t from to c is = by_side (cases_lt t mid.clock)
    where
      by_side : (t < mid.clock) ⊎ (mid.clock ≤ t) → (b : Choice) × IsChoice old old.clock b × ShutsOrStarts session level at old b c
      by_side (inl early) = safe t from (omega (arith, early)) c (past_choice mid new t c site past up (omega (arith, early)) is)
      by_side (inr late) = safe mid.clock later (omega arith) c (leaves_choice mid new site leaves t late to c is)

  -- Volumes that are left alone hold what they held.
  pub volumes_here : (old new : PlantState) → SameSite old new → LeavesAll old new → LeavesVolumes new.clock old new
  volumes_here old new site leaves t from to c is d there = leaves_choice old new site leaves t from to c is (Volume d) there

  pub volumes_then : (old mid new : PlantState) → SameSite old mid → old.clock ≤ mid.clock → 0 < mid.clock → SameSite mid new → Elapses mid new → LeavesAll mid new → LeavesVolumes mid.clock old mid → LeavesVolumes new.clock old new
  volumes_then old mid new before later up site past leaves kept t from to c is d there = by_side (cases_lt t mid.clock)
    where
      by_side : (t < mid.clock) ⊎ (mid.clock ≤ t) → old.images old.clock (Volume d) (c (Volume d))
      by_side (inl early) = kept t from (omega (arith, early)) c (past_choice mid new t c site past up (omega (arith, early)) is) d there
      by_side (inr late) = kept mid.clock later (omega arith) c (leaves_choice mid new site leaves t late to c is) d there

  pub volumes_after : (old mid new : PlantState) (to : ℕ) → old.clock ≤ mid.clock → 0 < mid.clock → SameSite old mid → LeavesAll old mid → SameSite mid new → Elapses mid new → LeavesVolumes to mid new → LeavesVolumes to old new
  volumes_after old mid new to later up before leaves site past kept t from within c is d there = by_side (cases_lt t mid.clock)
    where
      by_side : (t < mid.clock) ⊎ (mid.clock ≤ t) → old.images old.clock (Volume d) (c (Volume d))
      by_side (inl early) = leaves_choice old mid before leaves t from (omega (arith, early)) c (past_choice mid new t c site past up (omega (arith, early)) is) (Volume d) there
      by_side (inr late) =
          let image = kept t late within c is d (omega (arith, there, before.volumes)) in
          let start = (leaves (Volume d)).images mid.clock later (omega arith) (c (Volume d)) image in
          subst (λ (l : List ℕ). old.images old.clock (Volume d) l) (sym start.2) start.1

  -- It was safe to leave them alone before.
  pub safe_after : (old mid new : PlantState) (to : ℕ) → old.clock ≤ mid.clock → 0 < mid.clock → SameSite old mid → LeavesAll old mid → SameSite mid new → Elapses mid new → IsSafeUpTo session level at to mid new → IsSafeUpTo session level at to old new
  safe_after old mid new to later up before leaves site past safe t from within c is = by_side (cases_lt t mid.clock)
    where
      by_side : (t < mid.clock) ⊎ (mid.clock ≤ t) → (b : Choice) × IsChoice old old.clock b × ShutsOrStarts session level at old b c
      by_side (inl early) =
          let there = past_choice mid new t c site past up (omega (arith, early)) is in
          (c, leaves_choice old mid before leaves t from (omega (arith, early)) c there, inl (shut_here (lengths_of old) c))
      by_side (inr late) =
          let start = safe t late within c is in
          (start.0, leaves_choice old mid before leaves mid.clock later (omega arith) start.0 start.1, starts_same old mid before start.0 c start.2)

  -- A session that was formatted since, where devices were left alone before, was formatted first.
  pub formats_after : (old mid new : PlantState) (to : ℕ) → old.clock ≤ mid.clock → 0 < mid.clock → SameSite old mid → LeavesAll old mid → SameSite mid new → Elapses mid new → FormatsFirst session level at mid new to → FormatsFirst session level at old new to
  formats_after old mid new to later up before leaves site past f = record {
    formatted_at = f.formatted_at;
    since = omega (arith, later, f.since);
    within = f.within;
    before = λ t from upto c is. by_side t from upto c is (cases_lt t mid.clock);
    first = λ c is. ap (λ (s : Shape). chosen_in s c) (sym (shape_same old mid before)) ∙ f.first c is;
  }
    where
      by_step : (b c : Choice) → ShutsSite (lengths_of mid) b c ⊎ (means_of mid c ≡ Some (started_means session level (stamp at))) → ShutsSite (lengths_of old) b c ⊎ (means_of old c ≡ Some (started_means session level (stamp at)))
      by_step b c (inl shuts) = inl (subst (λ (l : List ℕ). ShutsSite l b c) (same_lengths old mid before) shuts)
      by_step b c (inr means) = inr (sym (same_means old mid before c) ∙ means)

      by_side : (t : ℕ) → old.clock ≤ t → t ≤ f.formatted_at → (c : Choice) → IsChoice new t c → (t < mid.clock) ⊎ (mid.clock ≤ t)
          → (b : Choice) × IsChoice old old.clock b × (ShutsSite (lengths_of old) b c ⊎ (means_of old c ≡ Some (started_means session level (stamp at))))
      by_side t from upto c is (inl early) =
          let there = past_choice mid new t c site past up (omega (arith, early)) is in
          (c, leaves_choice old mid before leaves t from (omega (arith, early)) c there, inl (shut_here (lengths_of old) c))
      by_side t from upto c is (inr late) =
          let start = f.before t late upto c is in
          (start.0, leaves_choice old mid before leaves mid.clock later (omega arith) start.0 start.1, by_step start.0 c start.2)

  -- Calls that leave the devices alone end safely. With them others do, too, before or after them.
  pub now_here : (old new : PlantState) → old.clock ≤ new.clock → SameSite old new → LeavesAll old new → IsSafeNow session level at old new
  now_here old new later site leaves = record {
    bytes = λ d there. (leaves (Volume d)).bytes;
    images = λ d there c is. image_left old new later leaves d c is;
    safe = λ durable c is. (c, leaves_choice old new site leaves new.clock later (omega arith) c is, inl (shut_here (lengths_of old) c));
  }

  pub now_then : (old mid new : PlantState) → mid.clock ≤ new.clock → SameSite mid new → LeavesAll mid new → IsSafeNow session level at old mid → IsSafeNow session level at old new
  now_then old mid new later site leaves safe = record {
    bytes = λ d there. (leaves (Volume d)).bytes ∙ safe.bytes d there;
    images = λ d there c is. safe.images d there c (image_left mid new later leaves d c is);
    safe = λ durable c is. safe.safe durable c (leaves_choice mid new site leaves new.clock later (omega arith) c is);
  }

  pub now_after : (old mid new : PlantState) → old.clock ≤ mid.clock → SameSite old mid → LeavesAll old mid → IsSafeNow session level at mid new → IsSafeNow session level at old new
  now_after old mid new later before leaves safe = record {
    bytes = λ d there. safe.bytes d (omega (arith, there, before.volumes)) ∙ (leaves (Volume d)).bytes;
    images = λ d there c is. image_left old mid later leaves d c (safe.images d (omega (arith, there, before.volumes)) c is);
    safe = λ durable c is.
        let start = safe.safe (durable_still old mid later leaves durable) c is in
        (start.0, leaves_choice old mid before leaves mid.clock later (omega arith) start.0 start.1, starts_same old mid before start.0 c start.2);
  }

-- ---- a line

-- A line that starts nothing, or a start that wasn't done, leaves the devices alone.
pub begins_none : (session : List ℕ) (line : Line) (old new : PlantState) → old.clock ≤ new.clock → SameSite old new → LeavesAll old new → ((t : ℕ) → old.clock ≤ t → t ≤ new.clock → new.said t ≡ old.said old.clock) → BeginsByLine session line old new
begins_none session line old new later site leaves quiet = by_level (level_started session line)
  where
    by_level : (o : Option Level) → MatchOption o (LeavesAll old new) (λ level. BeginsSafely session level line.time.0 old new)
    by_level None = leaves
    by_level (Some level) = record {
      now = now_here session level line.time.0 old new later site leaves;
      throughout = λ up durable. record {
        safe = safe_here session level line.time.0 old new site leaves;
        volumes = volumes_here session level line.time.0 old new site leaves;
        means = λ t from to said. absurd (said (quiet t from to));
        formats = λ t from to said. absurd (said (quiet t from to));
      };
    }

-- Volumes that stay hold what they held.
volumes_stay : (tells : Type 0) → tells → (old new : PlantState) → SameSite old new → VolumesStay tells old new → LeavesVolumes new.clock old new
volumes_stay tells told old new site stay t from to c is d there =
    let start = stay.images told d t from to (c (Volume d)) (is (Volume d) (part_still old new (Volume d) site there)) in
    subst (λ (l : List ℕ). old.images old.clock (Volume d) l) (sym start.2) start.1

-- A start was begun, and nothing was said.
pub begins_start : (session : List ℕ) (line : Line) (level : Level) (old new : PlantState) → level_started session line ≡ Some level → SameSite old new → Elapses old new → Silent old new → (tells : Type 0) → tells → VolumesStay tells old new → (IsDurable (on old Control) → IsSafeUpTo session level line.time.0 new.clock old new)
    → BeginsByLine session line old new
begins_start session line level old new is site past silent tells told volumes safe =
    subst (λ (o : Option Level). MatchOption o (LeavesAll old new) (λ l. BeginsSafely session l line.time.0 old new)) (sym is)
    (record {
      now = record {
        bytes = λ d there. volumes.bytes told d;
        images = λ d there c is.
            let start = volumes.images told d new.clock later (omega arith) c is in
            subst (λ (l : List ℕ). old.images old.clock (Volume d) l) (sym start.2) start.1;
        safe = λ durable c is. safe durable new.clock later (omega arith) c is;
      };
      throughout = λ up durable. record {
        safe = safe durable;
        volumes = volumes_stay tells told old new site volumes;
        means = λ t from to said. absurd (said (silent.said t from to));
        formats = λ t from to said. absurd (said (silent.said t from to));
      };
    })
  where
    later : old.clock ≤ new.clock
    later = (past.kept Control).later

-- What a line has begun stays begun while its reply is said. Once it means the start, whatever is said, it does.
pub begins_said : (session : List ℕ) (line : Line) (tells : Type 0) (old mid new : PlantState) → tells → SameSite old mid → Elapses old mid → WorksOnConsole tells mid new → BeginsByLine session line old mid
    → IfSome (level_started session line) (λ level. StandsAfterStart session level line.time.0 old mid) → BeginsByLine session line old new
begins_said session line tells old mid new told site past works begins means = by_level (level_started session line) begins means
  where
    later : old.clock ≤ mid.clock
    later = (past.kept Control).later

    by_level : (o : Option Level) → MatchOption o (LeavesAll old mid) (λ level. BeginsSafely session level line.time.0 old mid)
        → IfSome o (λ level. StandsAfterStart session level line.time.0 old mid) → MatchOption o (LeavesAll old new) (λ level. BeginsSafely session level line.time.0 old new)
    by_level None leaves none = leaves_then old mid new later leaves (works.elapses told) (leaves_console tells mid new told works)
    by_level (Some level) starts mean = record {
      now = now_then session level line.time.0 old mid new ((works.elapses told).kept Control).later works.site (leaves_console tells mid new told works) starts.now;
      throughout = λ up durable.
          let was = starts.throughout up durable in
          record {
            safe = safe_then session level line.time.0 old mid new later (omega (arith, up, later)) works.site (works.elapses told) (leaves_console tells mid new told works) was.safe;
            volumes = volumes_then session level line.time.0 old mid new site later (omega (arith, up, later)) works.site (works.elapses told) (leaves_console tells mid new told works) was.volumes;
            means = λ t from to said. by_side level was mean.means up t from to said (cases_lt t mid.clock);
            formats = λ t from to said. formats_by level was (mean.formats up durable) up t from to said (cases_lt t mid.clock);
          };
    }
      where
        by_side : (level : Level) → StartsSafely session level line.time.0 old mid → AtNow (MeansStart session level line.time.0 old) mid → 0 < old.clock → (t : ℕ) → old.clock ≤ t → t ≤ new.clock → new.said t ≢ old.said old.clock
            → (t < mid.clock) ⊎ (mid.clock ≤ t) → AtMoment (MeansStart session level line.time.0 old) new t
        by_side level was mean up t from to said (inl early) =
            λ c is.
            was.means t from (omega (arith, early)) (λ same. said ((works.elapses told).said t (omega (arith, up, later)) (omega (arith, early)) ∙ same)) c
            (past_choice mid new t c works.site (works.elapses told) (omega (arith, up, later)) (omega (arith, early)) is)
        by_side level was mean up t from to said (inr late) = λ c is. mean c (console_choice tells told mid new t c works late to is)

        formats_by : (level : Level) → StartsSafely session level line.time.0 old mid → FormatsFirst session level line.time.0 old mid mid.clock → 0 < old.clock → (t : ℕ) → old.clock ≤ t → t ≤ new.clock → new.said t ≢ old.said old.clock
            → (t < mid.clock) ⊎ (mid.clock ≤ t) → FormatsFirst session level line.time.0 old new t
        formats_by level was first up t from to said (inl early) =
            formats_on session level line.time.0 old mid new t t works.site (works.elapses told) (omega (arith, up, later)) (omega (arith, early)) (omega arith)
            (was.formats t from (omega (arith, early)) (λ same. said ((works.elapses told).said t (omega (arith, up, later)) (omega (arith, early)) ∙ same)))
        formats_by level was first up t from to said (inr late) = formats_on session level line.time.0 old mid new mid.clock t works.site (works.elapses told) (omega (arith, up, later)) (omega arith) late first

-- ---- a run

-- A reply that was said stays so after what is said then.
pub replied_later : (level : Level) (at : ℕ) (old mid new : PlantState) → SaidGrows mid new → HasRepliedToStart level at old mid → HasRepliedToStart level at old new
replied_later level at old mid new grows replied = record {
  before = replied.before;
  later = replied.later ++ grows.more;
  said =
      grows.said ∙ ap (λ (l : List ℕ). l ++ grows.more) replied.said ∙ append_assoc (old.said old.clock) (replied.before ++ reply_to_start level at ++ replied.later) grows.more
      ∙ ap (λ (l : List ℕ). old.said old.clock ++ l) (append_assoc (replied.before ++ reply_to_start level at) replied.later grows.more);
}

-- What was heard and said of a run that has started stays so after calls that keep the past.
pub started_later : (session : List ℕ) (old mid new : PlantState) (more : List ℕ) → SameSite mid new → Elapses mid new → SaidGrows mid new → new.heard new.clock ≡ mid.heard mid.clock ++ more → HasStartedRun session old mid → HasStartedRun session old new
started_later session old mid new more site past grows heard started = record {
  level = started.level;
  at = started.at;
  hears = record {
    lines = started.hears.lines;
    text = started.hears.text;
    later = started.hears.later ++ more;
    start = started.hears.start;
    heard =
        heard ∙ ap (λ (l : List ℕ). l ++ more) started.hears.heard ∙ append_assoc (old.heard old.clock) (texts_of started.hears.lines ++ started.hears.text ++ started.hears.later) more
        ∙ ap (λ (l : List ℕ). old.heard old.clock ++ l) (append_assoc (texts_of started.hears.lines ++ started.hears.text) started.hears.later more);
  };
  replied = replied_later started.level started.at old mid new grows started.replied;
  after = λ up durable.
      let was = started.after up durable in
      let b = was.0 in
      let now : 0 < mid.clock = omega (arith, up, b.since, b.later, b.within) in (
        record {
          lines = b.lines;
          text = b.text;
          start = b.start;
          heard_at = b.heard_at;
          since = b.since;
          heard = past.heard b.heard_at now (omega (arith, b.later, b.within)) ∙ b.heard;
          untouched = λ t from to c is. b.untouched t from to c (past_choice mid new t c site past now (omega (arith, to, b.later, b.within)) is);
          replied_at = b.replied_at;
          later = b.later;
          within = omega (arith, b.within, (past.kept Control).later);
          reached = inl (said_alike now b was.1);
          safe = λ t from to c is. b.safe t from to c (past_choice mid new t c site past now (omega (arith, to, b.within)) is);
          volumes = λ t from to c is. b.volumes t from to c (past_choice mid new t c site past now (omega (arith, to, b.within)) is);
          means = by_means now b b.means;
          formats = by_formats now b b.formats;
        },
        said_alike now b was.1,
      );
}
  where
    said_alike : 0 < mid.clock → (b : StartsAfter session started.level started.at old mid) → mid.said b.replied_at ≡ mid.said b.heard_at ++ reply_to_start started.level started.at → new.said b.replied_at ≡ new.said b.heard_at ++ reply_to_start started.level started.at
    said_alike now b replied =
        past.said b.replied_at now b.within ∙ replied ∙ ap (λ (l : List ℕ). l ++ reply_to_start started.level started.at) (sym (past.said b.heard_at now (omega (arith, b.later, b.within))))

    by_means : 0 < mid.clock → (b : StartsAfter session started.level started.at old mid) → IsUnsaid (mid.said b.heard_at) (mid.said b.replied_at) ⊎ AtMoment (MeansStart session started.level started.at old) mid b.replied_at
        → IsUnsaid (new.said b.heard_at) (new.said b.replied_at) ⊎ AtMoment (MeansStart session started.level started.at old) new b.replied_at
    by_means now b (inl unsaid) =
        inl (subst (λ (l : List ℕ). IsUnsaid l (new.said b.replied_at)) (sym (past.said b.heard_at now (omega (arith, b.later, b.within)))) (subst (λ (l : List ℕ). IsUnsaid (mid.said b.heard_at) l) (sym (past.said b.replied_at now b.within)) unsaid))
    by_means now b (inr mean) = inr (λ c is. mean c (past_choice mid new b.replied_at c site past now b.within is))

    by_formats : 0 < mid.clock → (b : StartsAfter session started.level started.at old mid) → IsUnsaid (mid.said b.heard_at) (mid.said b.replied_at) ⊎ FormatsFirst session started.level started.at old mid b.replied_at
        → IsUnsaid (new.said b.heard_at) (new.said b.replied_at) ⊎ FormatsFirst session started.level started.at old new b.replied_at
    by_formats now b (inl unsaid) =
        inl (subst (λ (l : List ℕ). IsUnsaid l (new.said b.replied_at)) (sym (past.said b.heard_at now (omega (arith, b.later, b.within)))) (subst (λ (l : List ℕ). IsUnsaid (mid.said b.heard_at) l) (sym (past.said b.replied_at now b.within)) unsaid))
    by_formats now b (inr first) = inr (formats_on session started.level started.at old mid new b.replied_at b.replied_at site past now b.within (omega arith) first)

-- A run whose session has started has begun.
pub begun_by_start : (session : List ℕ) (old new : PlantState) → HasStartedRun session old new → BeginsRun session old new
begun_by_start session old new started = Starting started.level started.at started.hears (inl started.replied) (λ up durable. (started.after up durable).0)

pub begun_run : (session : List ℕ) (site : Option SiteState) (old new : PlantState) → HasBegunRun session site old new → BeginsRun session old new
begun_run session None old new begun = Unstarted begun
begun_run session (Some site) old new begun = begun_by_start session old new begun

-- ---- the line that starts it

-- A line was heard after a plant's state at which no device had been worked on.
module _ (session : List ℕ) (line : Line) (level : Level) (old heard new : PlantState) (lines : List Answered) (text : List ℕ) (leaves : LeavesAll old heard) (first : SameSite old heard) (past_first : Elapses old heard)
    (start : IsStartOfScript session level line.time.0 old.script lines text) (all_heard : heard.heard heard.clock ≡ old.heard old.clock ++ (texts_of lines ++ text)) (site : SameSite heard new) (past : Elapses heard new) (unheard : new.heard new.clock ≡ heard.heard heard.clock)
    (starts : level_started session line ≡ Some level) (begins : BeginsByLine session line heard new) where
  pub hears_start : HearsStart session level line.time.0 old new
  hears_start = record {
    lines = lines;
    text = text;
    later = [];
    start = start;
    heard = unheard ∙ all_heard ∙ ap (λ (l : List ℕ). old.heard old.clock ++ l) (sym (append-nil (texts_of lines ++ text)));
  }

  later : old.clock ≤ heard.clock
  later = (past_first.kept Control).later

  begun : BeginsSafely session level line.time.0 heard new
  begun = subst (λ (o : Option Level). MatchOption o (LeavesAll heard new) (λ l. BeginsSafely session l line.time.0 heard new)) starts begins

  module _ (up : 0 < old.clock) (durable : IsDurable (on old Control)) where
    now : 0 < heard.clock
    now = omega (arith, up, later)

    safely : StartsSafely session level line.time.0 heard new
    safely = begun.throughout now (durable_still old heard later leaves durable)

    said_first : new.said heard.clock ≡ heard.said heard.clock
    said_first = past.said heard.clock now (omega arith)

    means_now : IsUnsaid (new.said heard.clock) (new.said new.clock) ⊎ AtMoment (MeansStart session level line.time.0 old) new new.clock
    means_now = by_said (bytes_eq (new.said new.clock) (heard.said heard.clock)) refl
      where
        by_said : (b : Bool) → bytes_eq (new.said new.clock) (heard.said heard.clock) ≡ b → IsUnsaid (new.said heard.clock) (new.said new.clock) ⊎ AtMoment (MeansStart session level line.time.0 old) new new.clock
        by_said true same = inl (inl ((bytes_eq-Decides (new.said new.clock) (heard.said heard.clock)).0 same ∙ sym said_first))
        by_said false differ =
            inr (λ c is.
            means_same session level line.time.0 old heard first c
            (safely.means new.clock (past.kept Control).later (omega arith) (λ same. absurd (true≢false (sym ((bytes_eq-Decides (new.said new.clock) (heard.said heard.clock)).1 same) ∙ differ))) c is))

    formats_now : IsUnsaid (new.said heard.clock) (new.said new.clock) ⊎ FormatsFirst session level line.time.0 old new new.clock
    formats_now = by_said (bytes_eq (new.said new.clock) (heard.said heard.clock)) refl
      where
        by_said : (b : Bool) → bytes_eq (new.said new.clock) (heard.said heard.clock) ≡ b → IsUnsaid (new.said heard.clock) (new.said new.clock) ⊎ FormatsFirst session level line.time.0 old new new.clock
        by_said true same = inl (inl ((bytes_eq-Decides (new.said new.clock) (heard.said heard.clock)).0 same ∙ sym said_first))
        by_said false differ =
            inr (formats_after session level line.time.0 old heard new new.clock later now first leaves site past
            (safely.formats new.clock (past.kept Control).later (omega arith) (λ same. absurd (true≢false (sym ((bytes_eq-Decides (new.said new.clock) (heard.said heard.clock)).1 same) ∙ differ)))))

    abbrev starts_after : (new.said new.clock ≡ new.said heard.clock ++ reply_to_start level line.time.0) ⊎ (new.clock ≡ new.clock) → StartsAfter session level line.time.0 old new
    starts_after reached = record {
      lines = lines;
      text = text;
      start = start;
      heard_at = heard.clock;
      since = later;
      heard = past.heard heard.clock now (omega arith) ∙ all_heard;
      untouched = λ t from to c is. leaves_choice old heard first leaves t from to c (past_choice heard new t c site past now to is);
      replied_at = new.clock;
      later = (past.kept Control).later;
      within = omega arith;
      reached = reached;
      safe = safe_after session level line.time.0 old heard new new.clock later now first leaves site past safely.safe;
      volumes = volumes_after session level line.time.0 old heard new new.clock later now first leaves site past safely.volumes;
      means = means_now;
      formats = formats_now;
    }

  -- It begins the run, and once its reply was said whole the run has started.
  pub begins_by_start : BeginsRun session old new
  begins_by_start = Starting level line.time.0 hears_start (inr (now_after session level line.time.0 old heard new later first leaves begun.now)) (λ up durable. starts_after up durable (inr refl))

  pub has_started : SaidGrows old heard → new.said new.clock ≡ heard.said heard.clock ++ reply_to_start level line.time.0 → HasStartedRun session old new
  has_started grows replied = record {
    level = level;
    at = line.time.0;
    hears = hears_start;
    replied = record {
      before = grows.more;
      later = [];
      said =
          replied ∙ ap (λ (l : List ℕ). l ++ reply_to_start level line.time.0) grows.said ∙ append_assoc (old.said old.clock) grows.more (reply_to_start level line.time.0)
          ∙ ap (λ (l : List ℕ). old.said old.clock ++ l) (sym (append-nil (grows.more ++ reply_to_start level line.time.0)));
    };
    after = λ up durable.
        let whole : new.said new.clock ≡ new.said heard.clock ++ reply_to_start level line.time.0 = replied ∙ ap (λ (l : List ℕ). l ++ reply_to_start level line.time.0) (sym (past.said heard.clock (omega (arith, up, later)) (omega arith))) in
        (starts_after up durable (inl whole), whole);
  }
