-- A reply has one reply line, its last, and no front of it has one.
use Rattle.std.proofs.Common.{◌≡◌, ℕ, ◌+◌, ◌<◌, Bool, false, List, [], ◌∷◌, ◌++◌, length, take, drop, refl, sym, ap, subst, ◌∙◌, arith, length-append}
use Rattle.std.specs.Prelude.{fold}
use Rattle.std.specs.List.{list_any}
use Rattle.std.proofs.lemmas.Bool.{or_parts}
use Rattle.std.proofs.lemmas.List.{append-nil, take-append-drop, take-append-le}
use Rattle.std.proofs.lemmas.List.Folds.{list_any-append}
use Rattle.xrc_command.specs.declared.line.Line.{Line}
use Rattle.consistency.specs.Replies.{IsReply, has_reply, is_reply_line}
use Rattle.consistency.specs.Times.{AreWhole, ended_pieces, unended, whole_lines}
use Rattle.consistency.proofs.Pieces.{feed_whole, line_ended, lines_append, no_pieces, pieces_append}

-- A front of a text without a reply has none.
pub front_none : (a b : List ℕ) → has_reply (a ++ b) ≡ false → has_reply a ≡ false
front_none a b none =
    (or_parts (has_reply a) (list_any is_reply_line (ended_pieces 10 (unended 10 [] a) b))
    (sym (ap (list_any is_reply_line) (pieces_append 10 [] a b) ∙ list_any-append is_reply_line (whole_lines a) (ended_pieces 10 (unended 10 [] a) b)) ∙ none)).0

pub take_none : (k : ℕ) (text : List ℕ) → has_reply text ≡ false → has_reply (take k text) ≡ false
take_none k text none = front_none (take k text) (drop k text) (ap has_reply (take-append-drop k text) ∙ none)

module _ (is_accepted : Bool) (line : Line) (reply : List ℕ) (r : IsReply is_accepted line reply) where
  -- A reply ends with its line feed.
  pub reply_whole : AreWhole reply
  reply_whole = subst AreWhole (sym r.parts) (feed_whole (r.report ++ r.last))

  pub reply_length : length reply ≡ length (r.report ++ r.last) + 1
  reply_length = ap length r.parts ∙ length-append (r.report ++ r.last) (10 ∷ [])

  pub reply_some : 0 < length reply
  reply_some = omega (arith, reply_length)

  -- Its last line is the reply line.
  pub reply_lines : whole_lines reply ≡ whole_lines r.report ++ r.last ∷ []
  reply_lines = ap whole_lines r.parts ∙ line_ended r.report r.last r.whole r.one_line

  -- Without its line feed it has no reply in it, and so no front of it has.
  before_none : has_reply (r.report ++ r.last) ≡ false
  before_none =
      ap (list_any is_reply_line) (lines_append r.report r.last r.whole ∙ ap (λ (l : List (List ℕ)). whole_lines r.report ++ l) (no_pieces 10 [] r.last r.one_line).0 ∙ append-nil (whole_lines r.report)) ∙ r.none

  pub reply_front : (k : ℕ) → k < length reply → has_reply (take k reply) ≡ false
  reply_front k below =
      ap (λ (l : List ℕ). has_reply (take k l)) r.parts ∙ ap has_reply (take-append-le k (r.report ++ r.last) (10 ∷ []) (omega (arith, below, reply_length))) ∙ take_none k (r.report ++ r.last) before_none

-- the last of some lines
abbrev pub last_line : List (List ℕ) → List ℕ
last_line lines = fold (λ before line. line) [] lines

last_fold : (first : List ℕ) (lines : List (List ℕ)) (line : List ℕ) → fold (λ before line. line) first (lines ++ line ∷ []) ≡ line
last_fold first [] line = refl
last_fold first (x ∷ lines) line = last_fold x lines line

pub last_is : (is_accepted : Bool) (line : Line) (reply : List ℕ) (r : IsReply is_accepted line reply) → last_line (whole_lines reply) ≡ r.last
last_is is_accepted line reply r = ap last_line (reply_lines is_accepted line reply r) ∙ last_fold [] (whole_lines r.report) r.last
