-- What a line that was answered leaves to the next one.
use Rattle.std.proofs.Common.{◌≡◌, ◌≤◌, true, false, List, Option, Some, None, refl, sym, ap, subst, ◌∙◌, arith}
use Rattle.std.specs.Prelude.{IfSome, IsSomeAnd, MatchOption}
use Rattle.crash_plant.specs.Moments.{PlantState}
use Rattle.pair_table.specs.declared.level.Level.{Level}
use Rattle.pair_table.specs.Tables.{Table}
use Rattle.site_store.specs.Sites.{SiteState}
use Rattle.mover.specs.declared.lane.Lane.{Lane}
use Rattle.xrc_command.specs.declared.line.Line.{Line}
use Rattle.xrc_session.specs.declared.answering.LineAnswer.{LineAnswer}
use Rattle.xrc_session.specs.LinePauses.{IsAtSite, IsBetween, IsUnstarted}
use Rattle.xrc_session.specs.Lines.{IsDoneLine, IsSameSession, IsStartedAt}
use Rattle.xrc_session.specs.Starting.{level_started}
use Rattle.xrc_session.specs.States.{SessionState, site_time}
use Rattle.xrc_session.specs.Steps.{known_by}
use Rattle.xrc_session.proofs.Replied.{IsAsTold}

-- ---- what it tells

-- A session that stands between two lines tells its own table.
pub between_told : {S : Type 0} (tells : Type 0) (s : SessionState) (lanes : List (Lane S)) (plant : PlantState) → IsBetween tells s lanes plant → IsAsTold s
between_told {S} tells s lanes plant between = record { unstarted = unstarted; started = by_site s.site between.place }
  where
    unstarted : s.site ≡ None → s.table.is_started ≡ false
    unstarted is =
        let none = subst (λ (o : Option SiteState). MatchOption o (IsUnstarted s lanes) (IsAtSite tells s lanes plant)) is between.place in
        ap (λ (t : Table). t.is_started) none.table

    by_site : (o : Option SiteState) → MatchOption o (IsUnstarted s lanes) (IsAtSite tells s lanes plant) → IfSome o (λ site. (site.table ≡ s.table) × (s.table.is_started ≡ true))
    by_site None none = tt
    by_site (Some site) at = (sym at.table, ap (λ (t : Table). t.is_started) at.table ∙ at.may.commands.started)

-- ---- before the start

-- A line that starts nothing leaves the session.
pub unstarted_done : {S : Type 0} (tells : Type 0) (s next : SessionState) (lanes : List (Lane S)) (plant : PlantState) (line : Line) (answered : LineAnswer) → IsBetween tells s lanes plant → s.site ≡ None → next ≡ s → level_started s.session line ≡ None
    → IsDoneLine tells s next line lanes plant answered
unstarted_done {S} tells s next lanes plant line answered between none same refused =
    subst (λ (x : SessionState). IsDoneLine tells s x line lanes plant answered) (sym same)
    (record {
      between = between;
      same = record { session = refl; controls = refl };
      start = subst (λ (o : Option SiteState). IfSome o (λ site. IsSomeAnd s.site (λ now. (now.level ≡ site.level) × (s.names.labels ≡ s.names.labels)))) (sym none) tt;
      starts = λ is. subst (λ (o : Option Level). MatchOption o (s.site ≡ None) (λ level. IsSomeAnd s.site (λ site. site.level ≡ level))) (sym refused) none;
      time = λ on. subst (λ (o : Option SiteState). IfSome o (λ site. site.time ≡ line.time.0)) (sym none) tt;
      upto = subst (λ (o : Option SiteState). site_time o ≤ line.time.0) (sym none) (omega arith);
    })

-- One that starts it leaves it at its time.
pub started_done : {S : Type 0} (tells : Type 0) (s next : SessionState) (lanes : List (Lane S)) (plant : PlantState) (line : Line) (level : Level) (answered : LineAnswer) → IsBetween tells next lanes plant → s.site ≡ None → IsStartedAt level line.time.0 s next
    → level_started s.session line ≡ Some level → IsDoneLine tells s next line lanes plant answered
started_done {S} tells s next lanes plant line level answered between none started starts = record {
  between = between;
  same = started.same;
  start = subst (λ (o : Option SiteState). IfSome o (λ site. IsSomeAnd next.site (λ now. (now.level ≡ site.level) × (next.names.labels ≡ s.names.labels)))) (sym none) tt;
  starts = λ is. subst (λ (o : Option Level). MatchOption o (next.site ≡ None) (λ l. IsSomeAnd next.site (λ site. site.level ≡ l))) (sym starts) (by_level next.site started.started);
  time = λ on. by_time next.site started.started;
  upto = by_upto next.site started.started;
}
  where
    by_level : (o : Option SiteState) → IsSomeAnd o (λ site. (site.level ≡ level) × (site.time ≡ line.time.0)) → IsSomeAnd o (λ site. site.level ≡ level)
    by_level None is = is
    by_level (Some site) is = is.0

    by_time : (o : Option SiteState) → IsSomeAnd o (λ site. (site.level ≡ level) × (site.time ≡ line.time.0)) → IfSome o (λ site. site.time ≡ line.time.0)
    by_time None is = tt
    by_time (Some site) is = is.1

    by_upto : (o : Option SiteState) → IsSomeAnd o (λ site. (site.level ≡ level) × (site.time ≡ line.time.0)) → site_time o ≤ line.time.0
    by_upto None is = omega arith
    by_upto (Some site) is = omega (arith, is.1)

-- ---- from the start on

pub from_start_done : {S : Type 0} (tells : Type 0) (s next : SessionState) (lanes : List (Lane S)) (plant : PlantState) (line : Line) (answered : LineAnswer) (was site : SiteState) → s.site ≡ Some was → next.site ≡ Some site → IsBetween tells next lanes plant → IsSameSession s next
    → site.level ≡ was.level → next.names.labels ≡ s.names.labels → (next.is_ended ≡ false → site.time ≡ line.time.0) → site.time ≤ line.time.0 → IsDoneLine tells s next line lanes plant answered
from_start_done {S} tells s next lanes plant line answered was site was_is site_is between same level labels time up = record {
  between = between;
  same = same;
  start =
      subst (λ (o : Option SiteState). IfSome o (λ old. IsSomeAnd next.site (λ now. (now.level ≡ old.level) × (next.names.labels ≡ s.names.labels)))) (sym was_is)
      (subst (λ (o : Option SiteState). IsSomeAnd o (λ now. (now.level ≡ was.level) × (next.names.labels ≡ s.names.labels))) (sym site_is) (level, labels));
  starts = λ none. let clash : None ≡ Some was = sym none ∙ was_is in absurd cc;
  time = λ on. subst (λ (o : Option SiteState). IfSome o (λ x. x.time ≡ line.time.0)) (sym site_is) (time on);
  upto = subst (λ (o : Option SiteState). site_time o ≤ line.time.0) (sym site_is) up;
}

-- ---- the session by which runs are known

-- It is the one after a line before the start, and the one before the line from then on.
pub known_unstarted : (s next : SessionState) → s.site ≡ None → known_by s next ≡ next
known_unstarted s next none = by_site s.site none
  where
    by_site : (o : Option SiteState) → o ≡ None → (let k : SessionState = elim o [ None ↦ next | Some site ↦ s ] in k ≡ next)
    by_site None is = refl
    by_site (Some site) is = absurd cc

pub known_started : (s next : SessionState) (site : SiteState) → s.site ≡ Some site → known_by s next ≡ s
known_started s next site some = by_site s.site some
  where
    by_site : (o : Option SiteState) → o ≡ Some site → (let k : SessionState = elim o [ None ↦ next | Some x ↦ s ] in k ≡ s)
    by_site None is = absurd cc
    by_site (Some x) is = refl
