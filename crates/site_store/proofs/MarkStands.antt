-- A mark that is put at a site's spot, as a deed, and the site after it, over plain states.
use Rattle.std.proofs.Common.{◌≡◌, ◌⊎◌, ℕ, ◌^◌, ◌≤◌, ◌<◌, Bool, true, false, List, [], ◌∷◌, Some, Ok, refl, sym, ap, ◌∙◌, arith}
use Rattle.crash_plant.specs.declared.device.Device.TheVariants.{Control, State, Journal, Volume}
use Rattle.crash_plant.specs.declared.spot.Spot.{Spot}
use Rattle.crash_plant.specs.Calls.{WorksOn}
use Rattle.crash_plant.specs.Choices.{AllFollow, Choice, IsChoice}
use Rattle.crash_plant.specs.Moments.{PlantState}
use Rattle.control_set.specs.declared.value.Mark.{Mark}
use Rattle.control_set.specs.Slots.{chosen_mark, lengths_of}
use Rattle.control_set.proofs.Lengths.{same_lengths}
use Rattle.pair_table.specs.declared.row.PairRow.{PairRow}
use Rattle.state_set.specs.Slots.{state_of}
use Rattle.record_rows.specs.Deeds.{Deed}
use Rattle.record_rows.specs.Deeds.Deed.{Marked}
use Rattle.site_store.specs.RingLaws.{IsMarkedAtEnd, fresh_walk}
use Rattle.site_store.specs.RingPlants.{IsMeantFromMark}
use Rattle.site_store.proofs.RingPlants.{end_durable, mark_meant, sets_stay}
use Rattle.site_store.specs.Deeds.{from_mark}
use Rattle.site_store.specs.DoneDeeds.{BeginsDeeds, DoesDeeds}
use Rattle.site_store.specs.Exceptions.{Exceptions}
use Rattle.site_store.specs.Seeing.{MeansByDeed, MeansTheSame}
use Rattle.site_store.proofs.Single.{one_follows}
use Rattle.site_means.specs.declared.means.Means.{Means}
use Rattle.site_means.specs.Images.{shape_of}
use Rattle.site_means.specs.Meaning.Meaning.{Meant}
use Rattle.site_means.specs.Walk.{Walk}
use Rattle.site_store.specs.Marking.{IsMarked, MarkIsPut, PutsMark, excepted_with_waiting}
use Rattle.site_store.specs.Sites.{SiteState, meant_for, next_mark}
use Rattle.site_store.specs.Standing.{SiteStands, none_excepted}
use Rattle.site_store.proofs.Calls.{all_weaker}
use Rattle.site_store.proofs.MarkSeen.{IsReady, mark_seen, seen}

-- What a plant reads with no volume lent is a choice.
module _ (e : Exceptions) (site : SiteState) (ended : Bool) (rows : List PairRow) (old new : PlantState) (stands : SiteStands e site old) (low : site.mark.state_slot ≤ 1) (lt : site.mark.at.number < 2 ^ 64) (ready : IsReady site rows old)
    (tells : Type 0) (told : tells) (works : WorksOn tells IsMarked old new) (puts : AllFollow (PutsMark (lengths_of old) old.volumes (next_mark site ended) (record { level = site.level; rows = rows })) old new) where
  abbrev w : Walk
  w = stands.walk

  abbrev means : Means
  means = meant_for site

  abbrev m : Mark
  m = next_mark site ended

  abbrev deed : Deed
  deed = Marked site.at ended rows

  abbrev excepted : Exceptions
  excepted = excepted_with_waiting site e

  follows : AllFollow (λ b c. MeansTheSame old excepted b c ⊎ MeansByDeed old excepted site.told deed b c) old new
  follows = all_weaker old new _ _ puts (λ b c here step. seen e site ended rows old stands low lt ready b c here step)

  -- While it is put the deed begins.
  pub mark_begins : BeginsDeeds excepted site.told (deed ∷ []) old new
  mark_begins = (one_follows old new excepted site.told deed works.site (works.elapses told) (works.silent told) follows).0

  module _ (put : MarkIsPut m (record { level = site.level; rows = rows }) new) where
    -- Each choice then comes from one before, with the mark.
    marked : (c : Choice) → IsChoice new new.clock c → (b : Choice) × IsChoice old old.clock b × ((d : ℕ) → c (Volume d) ≡ b (Volume d)) × IsMarkedAtEnd (shape_of old) means w m rows b c
    marked c is =
        let later = ((works.elapses told).kept Control).later in
        let came = puts new.clock later (omega arith) c is in
        let lens = same_lengths old new works.site in
        let control : c Control ≡ new.bytes Control = put.control (c Control) (is Control tt) in
        let state : c State ≡ new.bytes State = put.state (c State) (is State tt) in (
          came.0,
          came.1,
          (λ d. came.2.others (Volume d) (λ no. no)),
          record {
            chosen = ap (λ (l : List ℕ). chosen_mark (lengths_of old) l) control ∙ ap (λ (l : List ℕ). chosen_mark l (new.bytes Control)) (sym lens) ∙ put.chosen;
            stored = ap (λ (l : List ℕ). state_of old.volumes m.session m.state_slot l) state ∙ ap (λ (n : ℕ). state_of n m.session m.state_slot (new.bytes State)) (sym works.site.volumes) ∙ put.holds;
            at = sym stands.at;
            session = refl;
            time = refl;
            same = came.2.others (Journal w.at.set) (λ no. no);
          },
        )

    -- Once it was put the deed is done.
    pub mark_does : DoesDeeds excepted site.told (deed ∷ []) old new
    mark_does = (one_follows old new excepted site.told deed works.site (works.elapses told) (works.silent told) follows).1 (λ c is.
        let came = marked c is in
        (came.0, came.1, mark_seen e site ended rows old stands low lt ready came.0 c came.1 came.2 came.3))

    meant_now : IsMeantFromMark means w m rows new
    meant_now = mark_meant old new means w m rows works.site stands.meant lt (λ c is.
        let came = marked c is in
        (came.0, came.1, came.3))

    -- The site stands after it: its walk begins at the mark's spot.
    pub mark_stands : (next : SiteState) → from_mark site.at ended rows means ≡ meant_for next → next.mark ≡ m → next.at ≡ site.at → next.time ≡ site.time → next.waiting ≡ [] → (b : Choice) → IsChoice old old.clock b → SiteStands none_excepted next new
    mark_stands next means_is mark_is at_is time_is idle b here = record {
      walk = fresh_walk w rows means;
      meant = λ c is. meant_now.meant c is ∙ ap (λ (k : Means). Meant k (fresh_walk w rows means)) (ap (λ (s : Spot). from_mark s ended rows means) stands.at ∙ means_is);
      chosen = λ c is. meant_now.chosen c is ∙ ap (λ (k : Mark). Ok (Some k)) (sym mark_is);
      at = stands.at ∙ sym at_is;
      last = sym time_is;
      control = put.control;
      state = put.state;
      journals = sets_stay old new (fresh_walk w rows means).entered ((works.elapses told).kept Control).later (λ j has. works.others told (Journal j) (λ no. no)) (end_durable old means w rows b (stands.meant b here) lt stands.journals);
      done = [];
      items = sym idle;
      applied = λ d there good x fine. refl;
      unwritten = λ d there not x has. absurd (let none : false ≡ true = has in cc);
    }
