-- Where a site stands, a record may be put at its spot, over plain states.
use Rattle.std.proofs.Common.{◌≡◌, ℕ, ◌+◌, ◌^◌, ◌≤◌, ◌<◌, length, None, sym, ap, subst, arith}
use Rattle.std.specs.List.{Contains}
use Rattle.crash_plant.specs.declared.layout.TheConstants.{SWITCH}
use Rattle.crash_plant.specs.declared.device.Device.TheVariants.{Journal}
use Rattle.crash_plant.specs.declared.spot.Spot.{Spot}
use Rattle.crash_plant.specs.Choices.{Choice, IsChoice}
use Rattle.crash_plant.specs.Moments.{IsDurable, PlantState, on}
use Rattle.xrc_journal.specs.RingWalks.{AllEndThrough}
use Rattle.xrc_journal.specs.Walks.{Logged}
use Rattle.site_means.specs.Images.{shape_of}
use Rattle.site_means.specs.Walk.{Walk, first_unfit}
use Rattle.site_store.specs.Ring.{FitsAfter}
use Rattle.site_store.proofs.Meant.{end_entered, meant_low}
use Rattle.site_store.proofs.RingPlants.{all_end, room_read}
use Rattle.site_store.specs.Exceptions.{Exceptions}
use Rattle.site_store.specs.Sites.{SiteState, meant_for}
use Rattle.site_store.specs.Standing.{FitsPlant, SiteStands}

module _ (e : Exceptions) (site : SiteState) (plant : PlantState) (stands : SiteStands e site plant) (fits : FitsPlant site plant) (c : Choice) (is : IsChoice plant plant.clock c) (low : site.at.number < 2 ^ 64) where
  abbrev w : Walk
  w = stands.walk

  low_there : w.at.number < 2 ^ 64
  low_there = omega (arith, low, ap (λ (s : Spot). s.number) stands.at)

  -- The number at the mark's spot has 64 bits.
  pub from_low : site.mark.at.number < 2 ^ 64
  from_low = meant_low (shape_of plant) c (meant_for site) w (stands.meant c is) low_there

  entered_there : Contains w.entered w.at.set
  entered_there = end_entered (shape_of plant) c (meant_for site) w (stands.meant c is) from_low

  durable_there : IsDurable (on plant (Journal w.at.set))
  durable_there = stands.journals w.at.set entered_there

  set_there : w.at.set < plant.journals
  set_there = subst (λ (s : Spot). s.set < plant.journals) (sym stands.at) fits.set

  room_there : length (plant.bytes (Journal site.at.set)) ≡ plant.lengths (Journal site.at.set) → w.at.place + SWITCH ≤ length (plant.bytes (Journal w.at.set))
  room_there size = subst (λ (s : Spot). s.place + SWITCH ≤ length (plant.bytes (Journal s.set))) (sym stands.at) (omega (arith, fits.room, size))

  -- Whatever a crash may leave, the walk ends at the site's spot.
  pub stands_end : (cut : ℕ) → site.time ≤ cut → length (plant.bytes (Journal site.at.set)) ≡ plant.lengths (Journal site.at.set) → AllEndThrough plant site.mark.at site.at cut
  stands_end cut late size =
      subst (λ (s : Spot). AllEndThrough plant site.mark.at s cut) stands.at
      (all_end plant (meant_for site) w cut stands.meant from_low (omega (arith, late, stands.last)) (room_read plant w set_there durable_there (room_there size)))

  -- A group whose items fit the rows on the devices may come after the walk.
  pub fits_after : (g : Logged) → site.time ≤ g.time → first_unfit plant.volumes 0 site.told g.items ≡ None → FitsAfter plant.volumes (meant_for site) w g
  fits_after g late fit = record { number = from_low; later = omega (arith, late, stands.last); fits = fit }
