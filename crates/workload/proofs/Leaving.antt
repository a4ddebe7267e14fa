-- Plants in memory: their devices never fail, and what reads leave of them.
use Rattle.std.proofs.Common.{◌≡◌, inl, inr, ℕ, refl, sym, ◌∙◌, subst, arith}
use Rattle.xrc_edge.specs.Causes.{Rose}
use Rattle.crash_plant.specs.declared.device.Device.{Device}
use Rattle.crash_plant.specs.declared.plain_plant.PlainPlant.{PlainPlant}
use Rattle.crash_plant.specs.Calls.{SameLoan, WorksOn}
use Rattle.crash_plant.specs.NewPlants.{SameConsole}
use Rattle.crash_plant.specs.Moments.{PlantState}
use Rattle.crash_plant.specs.PlainPlant.{plain_state}
use Rattle.crash_plant.proofs.Choices.{device_cases}
use Rattle.crash_plant.proofs.Counts.{plain_faults}
use Rattle.crash_plant.proofs.Steps.{kept_here, loan_trans, site_trans}
use Rattle.site_means.specs.Answers.{IsStore, ReadsAll}
use Rattle.workload.specs.Summaries.{LeavesAsItWas}

module _ (p q : PlainPlant) where
  -- No count of a device rises.
  pub never_rises : (d : Device) → Rose ((plain_state p).faults d) ((plain_state q).faults d) → ⊥
  never_rises d (inl more) = omega (arith, more, plain_faults q d)
  never_rises d (inr end) = omega (arith, end, plain_faults q d)

  pub same_faults : (d : Device) → (plain_state q).faults d ≡ (plain_state p).faults d
  same_faults d = plain_faults q d ∙ sym (plain_faults p d)

  -- Work on devices says and hears nothing.
  pub same_console : (among : Device → Type 0) → WorksOn (Unit {0}) among (plain_state p) (plain_state q) → SameConsole (plain_state p) (plain_state q)
  same_console among works = record {
    heard = (works.silent tt).heard 0 (omega arith) (omega arith);
    said = (works.silent tt).said 0 (omega arith) (omega arith);
    script = (works.silent tt).script;
    console_faults = works.console_faults;
  }

  -- A call on a device that keeps its bytes leaves all as it was.
  pub leaves_one : (d : Device) → (plain_state q).bytes d ≡ (plain_state p).bytes d → WorksOn (Unit {0}) (λ e. e ≡ d) (plain_state p) (plain_state q) → LeavesAsItWas (plain_state p) (plain_state q)
  leaves_one d same works = record {
    devices = record {
      site = works.site;
      loans = works.loans;
      bytes = λ e. elim (device_cases e d) [
        | inl here ↦ subst (λ (f : Device). (plain_state q).bytes f ≡ (plain_state p).bytes f) (sym here) same
        | inr other ↦ (works.others tt e other).bytes
      ];
      faults = same_faults;
    };
    console = same_console (λ e. e ≡ d) works;
  }

  -- So does the examination of a site.
  pub leaves_read : ReadsAll (Unit {0}) (plain_state p) (plain_state q) → LeavesAsItWas (plain_state p) (plain_state q)
  leaves_read reads = record {
    devices = record { site = reads.only.site; loans = reads.only.loans; bytes = reads.same tt; faults = same_faults };
    console = same_console IsStore reads.only;
  }

-- ---- calls one after another

pub console_then : (a b c : PlantState) → SameConsole a b → SameConsole b c → SameConsole a c
console_then a b c x y = record { heard = y.heard ∙ x.heard; said = y.said ∙ x.said; script = y.script ∙ x.script; console_faults = y.console_faults ∙ x.console_faults }

pub leaves_then : (a b c : PlantState) → LeavesAsItWas a b → LeavesAsItWas b c → LeavesAsItWas a c
leaves_then a b c x y = record {
  devices = record {
    site = site_trans a b c x.devices.site y.devices.site;
    loans = λ v. loan_trans v a b c (x.devices.loans v) (y.devices.loans v);
    bytes = λ d. y.devices.bytes d ∙ x.devices.bytes d;
    faults = λ d. y.devices.faults d ∙ x.devices.faults d;
  };
  console = console_then a b c x.console y.console;
}

pub loan_here : (v : ℕ) (a : PlantState) → SameLoan v a a
loan_here v a = record { is_lent = refl; since = refl; lent = kept_here (a.lent v); clock = refl }

pub leaves_here : (a : PlantState) → LeavesAsItWas a a
leaves_here a = record {
  devices = record { site = record { journals = refl; volumes = refl; lengths = λ d. refl }; loans = λ v. loan_here v a; bytes = λ d. refl; faults = λ d. refl };
  console = record { heard = refl; said = refl; script = refl; console_faults = refl };
}
