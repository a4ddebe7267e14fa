-- The numbers of all limits and lengths.
use Rattle.std.specs.Prelude.{◌≡◌, ◌-◌, ◌^◌, true}
use Rattle.xrc_edge.specs.declared.block.TheConstants.{BLOCK}
use Rattle.xrc_edge.specs.declared.limits.TheConstants.{FEWEST_JOURNALS, LONGEST_LINE, LONGEST_TEXT, LONGEST_TRACE, MOST_CONTROLS, MOST_CONTROL_VOLUMES, MOST_CYLINDERS, MOST_JOURNALS, MOST_LINES, MOST_NARROW_CYLINDERS, MOST_SITE_VOLUMES, TRACKS_OF_CYLINDER}
use Rattle.ckd_track.specs.declared.layout.TheConstants.{CAPACITY, CYLINDER_LENGTH, FIRST_SLOT, LONGEST_UPDATE, SLOT_LENGTH, WRITES_OF_RUN}
use Rattle.crash_plant.specs.declared.layout.TheConstants.{CONTROL_LENGTH, STATE_LENGTH, SWITCH}
use Rattle.pair_table.specs.declared.limits.TheConstants.{MOST_ROWS, NARROW_ROW_LENGTH, ROW_LENGTH}
use Rattle.xrc_journal.specs.declared.layout.TheConstants.{BESIDE_CONTROLS, MOST_BODY, OF_CONTROL}
use Rattle.control_set.specs.Slots.{place_of_slot}
use Rattle.state_set.specs.Slots.{state_slot_place}
use Rattle.xrc_cli.specs.declared.words.TheConstants.{LAST_DEVICE, MOST_NUMBER}

-- Contracts name each limit. Here each name has its number. The second slots of control and state have their places.
pub record AreLimitsFixed : Type 0 where
  -- a session, its traces and its script
  pub controls : MOST_CONTROLS ≡ 16
  pub control_volumes : MOST_CONTROL_VOLUMES ≡ 32
  pub cylinders : MOST_CYLINDERS ≡ 1000000
  pub narrow_cylinders : MOST_NARROW_CYLINDERS ≡ 65520
  pub tracks : TRACKS_OF_CYLINDER ≡ 15
  pub run_writes : WRITES_OF_RUN ≡ 32
  pub trace : LONGEST_TRACE ≡ 2 ^ 40
  pub lines : MOST_LINES ≡ 100000
  pub line : LONGEST_LINE ≡ 256
  pub heard : LONGEST_TEXT ≡ 257
  pub input : MOST_NUMBER ≡ 2 ^ 32 - 1
  -- a site and its pairs
  pub fewest_journals : FEWEST_JOURNALS ≡ 2
  pub journals : MOST_JOURNALS ≡ 16
  pub site_volumes : MOST_SITE_VOLUMES ≡ 64
  pub last_device : LAST_DEVICE ≡ 63
  pub rows : MOST_ROWS ≡ 64
  pub row : ROW_LENGTH ≡ 38
  pub narrow_row : NARROW_ROW_LENGTH ≡ 30
  -- the bytes of a track, of a volume, and of the devices of a site
  pub block : BLOCK ≡ 512
  pub track : CAPACITY ≡ 56664
  pub update : LONGEST_UPDATE ≡ 56656
  pub slot : SLOT_LENGTH ≡ 57344
  pub first_slot : FIRST_SLOT ≡ 512
  pub cylinder : CYLINDER_LENGTH ≡ 860160
  pub control : CONTROL_LENGTH ≡ 1024
  pub state : STATE_LENGTH ≡ 16384
  pub second_mark : place_of_slot true ≡ 512
  pub second_state : state_slot_place 1 ≡ 8192
  pub switch : SWITCH ≡ 24
  pub beside_controls : BESIDE_CONTROLS ≡ 8192
  pub of_control : OF_CONTROL ≡ 1818624
  pub body : MOST_BODY ≡ 29106176
