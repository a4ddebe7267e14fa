-- The lines of the script spell their commands.
use Rattle.std.proofs.Common.{◌≡◌, ◌≤◌, ◌<◌, ◌^◌, inl, inr, ℕ, zero, suc, true, slice_index_or, refl, arith}
use Rattle.tod_stamp.proofs.TextLaws.{texts_back}
use Rattle.tod_stamp.specs.Stamps.{stamp_text}
use Rattle.pair_table.specs.declared.level.Level.TheVariants.{Volume}
use Rattle.pair_table.specs.declared.command.Command.{Command}
use Rattle.pair_table.specs.declared.command.Command.TheVariants.{Start, End}
use Rattle.xrc_command.specs.declared.line.Line.{Line}
use Rattle.xrc_command.specs.Lines.{IsCommandText, IsLine, has_serials}
use Rattle.workload.specs.Scripts.{adds_pair, generated_line_text, generated_lines, generated_session, line_at, short_text, suspends_pair}

line_is_read : (time : ℕ) (command : Command) → 1 ≤ time → time < 2 ^ 64 → IsCommandText generated_session command (short_text generated_session command) → has_serials command ≡ true → IsLine (line_at time command) (generated_line_text (line_at time command))
line_is_read time command positive below spells serials = record {
  digits = stamp_text time;
  command = short_text generated_session command;
  parts = refl;
  reads = texts_back (record { 0 = time }) below;
  positive = positive;
  spells = spells;
  session = refl;
  serials = serials;
}

pub lines_are_read : (k : ℕ) (d : Line) → k < 12 → IsLine (slice_index_or generated_lines k d) (generated_line_text (slice_index_or generated_lines k d))
lines_are_read zero d lt = line_is_read 500 (Start Volume) (omega arith) (omega arith) (inr (refl, refl)) refl
lines_are_read (suc zero) d lt = line_is_read 600 (adds_pair 0) (omega arith) (omega arith) (inl refl) refl
lines_are_read (suc (suc zero)) d lt = line_is_read 600 (adds_pair 1) (omega arith) (omega arith) (inl refl) refl
lines_are_read (suc (suc (suc zero))) d lt = line_is_read 600 (adds_pair 2) (omega arith) (omega arith) (inl refl) refl
lines_are_read (suc (suc (suc (suc zero)))) d lt = line_is_read 600 (adds_pair 3) (omega arith) (omega arith) (inl refl) refl
lines_are_read (suc (suc (suc (suc (suc zero))))) d lt = line_is_read 600 (adds_pair 4) (omega arith) (omega arith) (inl refl) refl
lines_are_read (suc (suc (suc (suc (suc (suc zero)))))) d lt = line_is_read 600 (adds_pair 5) (omega arith) (omega arith) (inl refl) refl
lines_are_read (suc (suc (suc (suc (suc (suc (suc zero))))))) d lt = line_is_read 600 (adds_pair 6) (omega arith) (omega arith) (inl refl) refl
lines_are_read (suc (suc (suc (suc (suc (suc (suc (suc zero)))))))) d lt = line_is_read 600 (adds_pair 7) (omega arith) (omega arith) (inl refl) refl
lines_are_read (suc (suc (suc (suc (suc (suc (suc (suc (suc zero))))))))) d lt = line_is_read 1500 (suspends_pair 0) (omega arith) (omega arith) (inl refl) refl
lines_are_read (suc (suc (suc (suc (suc (suc (suc (suc (suc (suc zero)))))))))) d lt = line_is_read 2500 (adds_pair 0) (omega arith) (omega arith) (inl refl) refl
lines_are_read (suc (suc (suc (suc (suc (suc (suc (suc (suc (suc (suc zero))))))))))) d lt = line_is_read 3500 End (omega arith) (omega arith) (inl refl) refl
lines_are_read (suc (suc (suc (suc (suc (suc (suc (suc (suc (suc (suc (suc k)))))))))))) d lt = absurd (omega (arith, lt))
