-- The worked points come one from another.
use Rattle.std.proofs.Common.{ℕ, ◌≤◌, Bool, true, false, true≢false, cond, List, [], ◌∷◌, refl, sym, ap, arith}
use Rattle.std.specs.Prelude.{◌==◌, None, codes}
use Rattle.std.specs.List.{list_any}
use Rattle.std.proofs.lemmas.List.Sums.{sum_by-cons}
use Rattle.pair_table.specs.declared.command.Choice.TheVariants.{One}
use Rattle.pair_table.specs.declared.command.Command.TheVariants.{AddPair, DelPair, End, Query, Suspend}
use Rattle.pair_table.specs.declared.row.PairRow.{PairRow}
use Rattle.pair_table.specs.Rows.{is_suspended}
use Rattle.row_changes.specs.Changes.{Timed}
use Rattle.row_changes.specs.Changes.RowChange.{Hit, MarkedHit}
use Rattle.row_changes.specs.Spans.{hit_count, hits}
use Rattle.site_tests.specs.PointVectors.{CutRowIsWorked, EndedRowIsWorked, FailingRowIsWorked, MarkedRowIsWorked, ResumedMarkIsWorked, ResumedRowIsWorked, line_asking, timed_change}

-- One change hits a device once at most.
one_hit : (device : ℕ) (t : Timed) → hit_count device (t ∷ []) ≤ 1
one_hit device t = omega (arith, sum_by-cons (λ x. cond (hits device x) 1 0) t [], by_case (hits device t))
  where
    by_case : (b : Bool) → (let n : ℕ = cond b 1 0 in n ≤ 1)
    by_case true = omega arith
    by_case false = omega arith

pub resumed_row : ResumedRowIsWorked
resumed_row = record {
  linked = (
    ((record { goes_on = refl; not_ending = refl; none_marked = refl }, record { leads = record { may_come = (omega arith, refl); rows = refl; goes_on = refl }; together = refl; broken = refl }), λ device. omega arith),
    (
      (
        (
          refl,
          refl,
          record {
            line = line_asking 0x60 (AddPair (codes "PRIM01") (codes "SEC001") None);
            heard = refl;
            stand = refl;
            recorded = λ on same. refl;
            active = λ on. record { may = record { at = refl; none_due = refl; not_broken_yet = refl; settled = refl }; leads = record { are_hits = refl; at = refl; leads = record { may_come = (omega arith, refl); rows = refl; goes_on = refl } } };
            ended = λ off. absurd cc;
          },
        ),
        λ device. omega arith,
      ),
      (
        ((record { goes_on = refl; not_ending = refl; none_marked = refl }, record { leads = record { may_come = (omega arith, omega arith, refl, (omega arith, refl)); rows = refl; goes_on = refl }; together = refl; broken = refl }), λ device. omega arith),
        (
          ((record { goes_on = refl; not_ending = refl; none_marked = refl }, record { leads = record { may_come = (omega arith, refl); rows = refl; goes_on = refl }; together = refl; broken = refl }), λ device. omega arith),
          (
            (
              (
                refl,
                refl,
                record {
                  line = line_asking 0x100 (Suspend (One (codes "PRIM01") (codes "SEC001")));
                  heard = refl;
                  stand = refl;
                  recorded = λ on same. refl;
                  active = λ on. record { may = record { at = refl; none_due = refl; not_broken_yet = refl; settled = refl }; leads = record { are_hits = refl; at = refl; leads = record { may_come = (omega arith, refl); rows = refl; goes_on = refl } } };
                  ended = λ off. absurd cc;
                },
              ),
              λ device. omega arith,
            ),
            (
              ((record { goes_on = refl; not_ending = refl; none_marked = refl }, record { leads = record { may_come = (omega arith, refl); rows = refl; goes_on = refl }; together = refl; broken = refl }), λ device. omega arith),
              tt,
            ),
          ),
        ),
      ),
    ),
  );
  asked = refl;
  first_asked = refl;
}

pub failing_row : FailingRowIsWorked
failing_row = record {
  linked = (
    ((record { goes_on = refl; not_ending = refl; none_marked = refl }, record { leads = record { may_come = (omega arith, omega arith, refl, (omega arith, refl)); rows = refl; goes_on = refl }; together = refl; broken = refl }), λ device. omega (arith, one_hit device (timed_change 0x80 (Hit (1 ∷ []))))),
    tt,
  );
  earlier = λ way. true≢false (sym way.1.together);
  by_device = refl;
  by_session = refl;
  copied = refl;
}

pub marked_row : MarkedRowIsWorked
marked_row = record {
  linked = (
    (
      (
        refl,
        record { goes_on = refl; not_ending = refl; none_marked = refl },
        record { line = line_asking 0x80 (Suspend (One (codes "PRIM02") (codes "SEC002"))); heard = refl; may = record { at = refl; none_due = refl; not_broken_yet = refl; settled = refl }; alters = λ same. true≢false (ap (λ (rows : List PairRow). list_any (λ r. is_suspended r.state) rows) same); some = λ none. absurd cc; leads = record { are_marked = refl; at = refl; leads = record { may_come = (omega arith, omega arith, refl, (omega arith, refl)); rows = refl; goes_on = refl } } },
      ),
      λ device. omega (arith, one_hit device (timed_change 0x80 (MarkedHit (0 ∷ [])))),
    ),
    (
      (
        (
          refl,
          refl,
          record {
            line = line_asking 0x80 (Suspend (One (codes "PRIM02") (codes "SEC002")));
            heard = refl;
            stand = refl;
            recorded = λ on same. absurd (true≢false (ap (λ (rows : List PairRow). list_any (λ r. is_suspended r.state) rows) same));
            active = λ on. record { may = record { at = refl; none_due = refl; not_broken_yet = refl; settled = refl }; leads = record { are_hits = refl; at = refl; leads = record { may_come = (omega arith, omega arith, refl, (omega arith, refl)); rows = refl; goes_on = refl } } };
            ended = λ off. absurd cc;
          },
        ),
        λ device. omega (arith, one_hit device (timed_change 0x80 (Hit (0 ∷ [])))),
      ),
      tt,
    ),
  );
  counted = refl;
  gone = (
    (
      (
        refl,
        record { goes_on = refl; not_ending = refl; none_marked = refl },
        record { line = line_asking 0x80 (DelPair (One (codes "PRIM01") (codes "SEC001"))); heard = refl; may = record { at = refl; none_due = refl; not_broken_yet = refl; settled = refl }; alters = λ same. true≢false (sym (ap (λ (rows : List PairRow). list_any (λ r. r.device == 0) rows) same)); some = λ none. absurd cc; leads = record { are_marked = refl; at = refl; leads = record { may_come = (omega arith, omega arith, refl, (omega arith, refl)); rows = refl; goes_on = refl } } },
      ),
      λ device. omega (arith, one_hit device (timed_change 0x80 (MarkedHit (0 ∷ [])))),
    ),
    (
      (
        (
          refl,
          refl,
          record {
            line = line_asking 0x80 (DelPair (One (codes "PRIM01") (codes "SEC001")));
            heard = refl;
            stand = refl;
            recorded = λ on same. refl;
            active = λ on. record { may = record { at = refl; none_due = refl; not_broken_yet = refl; settled = refl }; leads = record { are_hits = refl; at = refl; leads = record { may_come = (omega arith, refl); rows = refl; goes_on = refl } } };
            ended = λ off. absurd cc;
          },
        ),
        λ device. omega (arith, one_hit device (timed_change 0x80 (MarkedHit (0 ∷ [])))),
      ),
      tt,
    ),
  );
  gone_counted = refl;
  vanished = refl;
}

pub resumed_mark : ResumedMarkIsWorked
resumed_mark = record { asked = refl; asked_after = refl }

pub ended_row : EndedRowIsWorked
ended_row = record {
  linked = (
    (
      (
        refl,
        refl,
        record {
          line = line_asking 0x80 End;
          heard = refl;
          stand = refl;
          recorded = λ on same. refl;
          active = λ on. record { may = record { at = refl; none_due = refl; not_broken_yet = refl; settled = refl }; leads = record { are_hits = refl; at = refl; leads = record { may_come = (omega arith, refl); rows = refl; goes_on = refl } } };
          ended = λ off. absurd cc;
        },
      ),
      λ device. omega arith,
    ),
    (
      ((record { last = refl; unchanged = refl; none_marked = refl }, record { accepted = refl; at = refl; ended = refl; leads = record { are_hits = refl; at = refl; leads = record { may_come = (omega arith, omega arith, refl, (omega arith, refl)); rows = refl; goes_on = refl } } }), λ device. omega (arith, one_hit device (timed_change 0x80 (Hit (0 ∷ []))))),
      (
        (
          (
            refl,
            refl,
            record { line = line_asking 0x80 End; heard = refl; stand = refl; recorded = λ on same. absurd cc; active = λ on. absurd cc; ended = λ off. (refl, refl) },
          ),
          λ device. omega (arith, one_hit device (timed_change 0x80 (Hit (0 ∷ [])))),
        ),
        tt,
      ),
    ),
  );
  none_after = λ way. true≢false way.0.not_ending;
  none_before = λ way. absurd (omega (arith, way.0.last));
}

pub cut_row : CutRowIsWorked
cut_row = record {
  linked = (
    ((record { goes_on = refl; not_ending = refl; none_marked = refl }, record { leads = record { may_come = (omega arith, omega arith, refl, (omega arith, refl)); rows = refl; goes_on = refl }; together = refl; broken = refl }), λ device. omega arith),
    (
      ((record { goes_on = refl; not_ending = refl; none_marked = refl }, record { leads = record { may_come = (omega arith, refl); rows = refl; goes_on = refl }; together = refl; broken = refl }), λ device. omega arith),
      (
        (
          (
            refl,
            refl,
            record {
              line = line_asking 0x70 Query;
              heard = refl;
              stand = refl;
              recorded = λ on same. refl;
              active = λ on. record { may = record { at = refl; none_due = refl; not_broken_yet = refl; settled = refl }; leads = record { are_hits = refl; at = refl; leads = record { may_come = (omega arith, refl); rows = refl; goes_on = refl } } };
              ended = λ off. absurd cc;
            },
          ),
          λ device. omega arith,
        ),
        tt,
      ),
    ),
  );
}
