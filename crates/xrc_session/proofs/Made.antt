-- A session is made.
use Rattle.std.proofs.Common.{◌≡◌, ◌⊎◌, inl, inr, ℕ, zero, suc, ◌+◌, ◌<◌, ◌≤◌, Bool, true, false, cond, List, [], length, get_or, Option, Some, None, Result, Ok, Err, refl, sym, ap, subst, ◌∙◌, arith}
use Rattle.std.specs.Prelude.{IfErr, IsErrOf, IsSomeAnd, IsTrue, slice_index_or}
use Rattle.std.specs.List.{list_all}
use Rattle.xrc_edge.specs.Causes.{Rose}
use Rattle.ckd_track.specs.declared.layout.TheConstants.{BLOCKS_OF_QUEUE, WRITES_OF_RUN}
use Rattle.crash_plant.specs.declared.device.Device.{Device}
use Rattle.crash_plant.specs.Calls.{NoneLent}
use Rattle.crash_plant.specs.Moments.{PlantState}
use Rattle.group_state.specs.Controls.{ControlState, is_reporting, new_control}
use Rattle.group_state.specs.Groups.{Group, control_at, new_controls, new_group}
use Rattle.pair_table.specs.Naming.{Naming, no_names, none_alike}
use Rattle.pair_table.specs.Tables.{Table, new_table}
use Rattle.mover.specs.declared.lane.Lane.{Lane}
use Rattle.mover.specs.Lanes.{IsReaderOf, heads_of, reader_in}
use Rattle.mover.specs.Readers.{LaneReaderState, is_of_header}
use Rattle.mover.specs.Rounds.{AreLanesOf}
use Rattle.site_store.specs.Standing.{HasLengths}
use Rattle.xrc_status.specs.declared.stop.Stop.{Stop}
use Rattle.xrc_status.specs.declared.stop.Stop.TheVariants.{BadSite, HeaderFault, NoMemory}
use Rattle.xrc_session.specs.LinePauses.{IsBetween}
use Rattle.xrc_session.specs.Lanes.{HaveVolumes, SourceBytes, primaries_in}
use Rattle.xrc_session.specs.Openings.{AreLanesOpened, ComesEarly, IsOfHeaders, IsOfSite, OpensInOrder, StopsByHeaders, first_too_short, has_site_numbers, opening_stop, session_need, stop_of_headers, stop_of_length, stop_of_site}
use Rattle.xrc_session.specs.States.{SessionState}

-- ---- kinds of stops

pub site_stop_is : (controls traces : ℕ) (plant : PlantState) (e : Stop) → stop_of_site controls traces plant ≡ Some e → IsOfSite e
site_stop_is controls traces plant e is = of (has_site_numbers controls traces plant) (first_too_short controls plant) is
  where
    of : (good : Bool) (short : Option Device) → cond good (stop_of_length controls short) (Some BadSite) ≡ Some e → IsOfSite e
    of true None is = absurd (cc is)
    of true (Some d) is = inr (d, session_need controls d, cc is)
    of false short is = inl (cc is)

not_of_both : (e : Stop) → IsOfSite e → IsOfHeaders e ⊎ (e ≡ NoMemory) → ⊥
not_of_both e (inl site) (inl (inl bad)) = cc (site, bad.2)
not_of_both e (inl site) (inl (inr fault)) = cc (site, fault.1)
not_of_both e (inl site) (inr memory) = cc (site, memory)
not_of_both e (inr small) (inl (inl bad)) = let a = small.2 in let b = bad.2 in cc (a, b)
not_of_both e (inr small) (inl (inr fault)) = let a = small.2 in let b = fault.1 in cc (a, b)
not_of_both e (inr small) (inr memory) = let a = small.2 in cc (a, memory)

not_memory : (e : Stop) → IsOfHeaders e → e ≡ NoMemory → ⊥
not_memory e (inl bad) memory = let a = bad.2 in cc (a, memory)
not_memory e (inr fault) memory = let a = fault.1 in cc (a, memory)

pub early_by_site : {T : Type 0} (result : Result T Stop) (controls traces : ℕ) (plant : PlantState) (e : Stop) → result ≡ Err e → stop_of_site controls traces plant ≡ Some e → IfErr result (λ stop. ComesEarly stop ⊎ (stop ≡ NoMemory))
early_by_site {T} result controls traces plant e is due = subst (λ (r : Result T Stop). IfErr r (λ stop. ComesEarly stop ⊎ (stop ≡ NoMemory))) (sym is) (inl (inl (site_stop_is controls traces plant e due)))

-- ---- the order

opening_by_site : (controls : ℕ) (plant : PlantState) (sources : List SourceBytes) (traces : ℕ) (e : Stop) → length sources ≡ traces → stop_of_site controls traces plant ≡ Some e → opening_stop controls plant sources ≡ Some e
opening_by_site controls plant sources traces e many is =
    let here : stop_of_site controls (length sources) plant ≡ Some e = ap (λ (n : ℕ). stop_of_site controls n plant) many ∙ is in
    ap (λ (o : Option Stop). elim o [ Some stop ↦ Some stop | None ↦ stop_of_headers 0 [] sources ]) here

opening_by_headers : (controls : ℕ) (plant : PlantState) (sources : List SourceBytes) (traces : ℕ) → length sources ≡ traces → stop_of_site controls traces plant ≡ None → opening_stop controls plant sources ≡ stop_of_headers 0 [] sources
opening_by_headers controls plant sources traces many is =
    let here : stop_of_site controls (length sources) plant ≡ None = ap (λ (n : ℕ). stop_of_site controls n plant) many ∙ is in
    ap (λ (o : Option Stop). elim o [ Some stop ↦ Some stop | None ↦ stop_of_headers 0 [] sources ]) here

module _ {S T : Type 0} (left : S → Option (List ℕ)) (faults : S → ℕ) (controls : ℕ) (before : List (Lane S)) (plant : PlantState) (result : Result T Stop) where
  -- Numbers or lengths stop it.
  pub opens_by_site : (e : Stop) → result ≡ Err e → stop_of_site controls (length before) plant ≡ Some e → OpensInOrder left faults controls before before plant result
  opens_by_site e is due = record {
    site = λ stop wanted. (let same : e ≡ stop = cc (due, wanted) in is ∙ ap (λ (x : Stop). Err x) same, refl);
    of_site = λ stop kind stopped. due ∙ (let same : e ≡ stop = cc (is, stopped) in ap (λ (x : Stop). Some x) same);
    headers = λ sources stop told wanted. inl (let exact = opening_by_site controls plant sources (length before) e told.many due in cc (is, exact, wanted));
    of_headers = λ sources stop told kind stopped. let exact = opening_by_site controls plant sources (length before) e told.many due in exact ∙ (let same : e ≡ stop = cc (is, stopped) in ap (λ (x : Stop). Some x) same);
    fault = λ k d stopped. absurd (not_of_both e (site_stop_is controls (length before) plant e due) (inl (inr (k, cc (is, stopped)))));
  }

  module _ (now : List (Lane S)) (right : stop_of_site controls (length before) plant ≡ None) where
    never_by_site : (stop : Stop) → stop_of_site controls (length before) plant ≡ Some stop → ⊥
    never_by_site stop due = cc (right, due)

    module _ {U : Type 0} (opening : Result U Stop) (by_headers : StopsByHeaders left faults 0 [] before now opening) where
      -- A header stops it.
      pub opens_by_header : (e : Stop) → opening ≡ Err e → result ≡ Err e → IsOfHeaders e ⊎ (e ≡ NoMemory) → ((k : ℕ) (d : Lane S) → IsErrOf opening (HeaderFault k) → Rose (faults (slice_index_or before k d).source) (faults (slice_index_or now k d).source))
          → OpensInOrder left faults controls before now plant result
      opens_by_header e was is of fault = record {
        site = λ stop due. absurd (never_by_site stop due);
        of_site = λ stop kind stopped. absurd (not_of_both stop kind (subst (λ (x : Stop). IsOfHeaders x ⊎ (x ≡ NoMemory)) (let same : e ≡ stop = cc (is, stopped) in same) of));
        headers = λ sources stop told due.
            elim (by_headers.due sources stop told (sym (opening_by_headers controls plant sources (length before) told.many right) ∙ due)) [ inl stopped ↦ inl (cc (was, is, stopped)) | inr memory ↦ inr (cc (was, is, memory)) ];
        of_headers = λ sources stop told kind stopped.
            elim (by_headers.stops sources stop told (let here : opening ≡ Err stop = cc (was, is, stopped) in here)) [ inl memory ↦ absurd (not_memory stop kind memory) | inr due ↦ opening_by_headers controls plant sources (length before) told.many right ∙ due ];
        fault = λ k d stopped. fault k d (cc (was, is, stopped));
      }

      -- Nothing does.
      pub opens_at_last : (y : U) (x : T) → opening ≡ Ok y → result ≡ Ok x → OpensInOrder left faults controls before now plant result
      opens_at_last y x was is = record {
        site = λ stop due. absurd (never_by_site stop due);
        of_site = λ stop kind stopped. absurd (cc (is, stopped));
        headers = λ sources stop told due.
            elim (by_headers.due sources stop told (sym (opening_by_headers controls plant sources (length before) told.many right) ∙ due)) [ inl stopped ↦ absurd (cc (was, stopped)) | inr memory ↦ absurd (cc (was, memory)) ];
        of_headers = λ sources stop told kind stopped. absurd (cc (is, stopped));
        fault = λ k d stopped. absurd (cc (is, stopped));
      }

-- ---- the shared state

controls_count : (n first records blocks : ℕ) → length (new_controls n first records blocks) ≡ n
controls_count zero first records blocks = refl
controls_count (suc n) first records blocks = ap (λ (k : ℕ). suc k) (controls_count n (first + 1) records blocks)

new_at : (n first records blocks k : ℕ) (d : ControlState) → k < n → get_or (new_controls n first records blocks) k d ≡ new_control (first + k) records blocks
new_at zero first records blocks k d less = absurd (omega arith)
new_at (suc n) first records blocks zero d less = ap (λ (m : ℕ). new_control m records blocks) (omega arith)
new_at (suc n) first records blocks (suc k) d less = new_at n (first + 1) records blocks k d (omega arith) ∙ ap (λ (m : ℕ). new_control m records blocks) (omega arith)

-- Lanes that were just opened are those of a shared state that is new.
pub new_lanes : {S : Type 0} (left : S → Option (List ℕ)) (faults : S → ℕ) (controls records blocks : ℕ) (before opened : List (Lane S)) → AreLanesOpened left faults before opened → length before ≡ controls → AreLanesOf (new_group controls records blocks) 0 opened
new_lanes left faults controls records blocks before opened are many = record { many = are.many ∙ many ∙ sym (controls_count controls 0 records blocks); each = each }
  where
    each : (k : ℕ) (d : _) → k < length opened → IsSomeAnd (reader_in (slice_index_or opened k d)) (IsReaderOf (new_group controls records blocks) k 0)
    each k d inside = of (reader_in (slice_index_or opened k d)) (are.each k d inside)
      where
        control : control_at (new_group controls records blocks) k ≡ new_control (0 + k) records blocks
        control = new_at controls 0 records blocks k (new_control 0 0 0) (let same = are.many in omega arith)

        of : (r : Option LaneReaderState) → IsSomeAnd r (λ r. (r.feed.side.control ≡ k) × (r.feed.halted ≡ None) × (r.feed.side.upto ≡ 0) × (r.feed.primary.time ≡ 0)) → IsSomeAnd r (IsReaderOf (new_group controls records blocks) k 0)
        of None is = absurd is
        of (Some r) is = record {
          control = is.0;
          sized = ap (λ (c : ControlState). list_all (is_of_header (heads_of r.feed)) c.volumes) control;
          floor = λ goes. ap (λ (c : ControlState). c.floor.0) control ∙ sym is.3;
          reporting = λ goes. ap (λ (c : ControlState). is_reporting c.phase) control;
          broken = λ cause upto halted. absurd (let none = is.1 in cc (none, halted));
          within = (let upto = is.2 in omega arith);
          goes = λ halted. let none = is.1 in cc (none, halted);
        }

-- ---- between lines

-- A session that wasn't started, of these names, this shared state and this table.
abbrev unstarted : (session : List ℕ) → (controls : ℕ) → Naming → Option Group → Table → SessionState
unstarted session controls names group table = record { session = session; controls = controls; names = names; group = group; table = table; site = None; is_ended = false }

pub new_between : {S : Type 0} (tells : Type 0) (left : S → Option (List ℕ)) (faults : S → ℕ) (session : List ℕ) (controls : ℕ) (names before : Naming) (lanes opened : List (Lane S)) (plant : PlantState) → (1 ≤ controls) × (controls ≤ 16) → NoneLent plant
    → HasLengths controls plant × (length lanes ≡ controls) × (1 ≤ plant.volumes) → before ≡ no_names → (names.primaries ≡ primaries_in 0 opened) × IsTrue (none_alike names.primaries) × (names.labels ≡ before.labels) × (names.broken ≡ before.broken) → AreLanesOpened left faults lanes opened → HaveVolumes opened
    → (kept : Naming) (group : Option Group) (table : Table) → kept ≡ names → group ≡ Some (new_group controls WRITES_OF_RUN BLOCKS_OF_QUEUE) → table ≡ new_table session → IsBetween tells (unstarted session controls kept group table) opened plant
new_between tells left faults session controls names before lanes opened plant few home fits none named are headed kept group table kept_is group_is table_is =
    subst (λ (s : SessionState). IsBetween tells s opened plant) (sym same) (record {
      home = home;
      few = few;
      many = are.many ∙ fits.1;
      lengths = fits.0;
      volumes = fits.2;
      headed = headed;
      named = named.0;
      apart = named.1;
      place = record {
        table = refl;
        labels = named.2 ∙ ap (λ (n : Naming). n.labels) none;
        broken = named.3 ∙ ap (λ (n : Naming). n.broken) none;
        goes_on = refl;
        fresh = refl;
        lanes_of = new_lanes left faults controls WRITES_OF_RUN BLOCKS_OF_QUEUE lanes opened are fits.1;
      };
    })
  where
    same : unstarted session controls kept group table ≡ unstarted session controls names (Some (new_group controls WRITES_OF_RUN BLOCKS_OF_QUEUE)) (new_table session)
    same =
        ap (λ (n : Naming). unstarted session controls n group table) kept_is ∙ ap (λ (g : Option Group). unstarted session controls names g table) group_is
        ∙ ap (λ (t : Table). unstarted session controls names (Some (new_group controls WRITES_OF_RUN BLOCKS_OF_QUEUE)) t) table_is
