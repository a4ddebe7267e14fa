use Rattle.std.proofs.Common.{◌≡◌, ◌∙◌, ◌-◌, ◌++◌, ap, sym, subst, arith, take, List}
use Rattle.ckd_track.specs.declared.rec.Rec.{Rec}
use Rattle.ckd_track.specs.Tracks.{IsTrack, track_size, capacity}
use Rattle.ckd_track.specs.Effects.{up_to, fitting}
use Rattle.ckd_track.proofs.RowLaws.{above_is_track, track_sizes}
use Rattle.ckd_track.proofs.Formatting.{listed, listed_found, listed_lost}
use Rattle.ckd_track.proofs.track.Track.format.Goals as goal

pub returns-then-last_number-after-clause-ok : goal.returns-then-last_number-after-clause-ok
returns-then-last_number-after-clause-ok c =
    let front = take c.count_up_to-kept.result c.recs-2.result.now in
    let front_is : front ≡ up_to c.args.after c.args.self.now =
    ap (take c.count_up_to-kept.result) (c.recs-2.ensures.recs ∙ sym c.recs.ensures.recs) ∙ c.count_up_to-kept.ensures.taken ∙ ap (up_to c.args.after) c.recs.ensures.recs in
    listed_lost c.args.after c.last_number.result c.args.given.now c.args.self.now front c.recs.ensures.track front_is c.last_number.ensures c.if-last_number-after.true

pub track_size-front_size-requires : goal.track_size-front_size-requires
track_size-front_size-requires c =
    let front = take c.count_up_to-kept.result c.recs-2.result.now in
    let front_is : front ≡ up_to c.args.after c.args.self.now =
    ap (take c.count_up_to-kept.result) (c.recs-2.ensures.recs ∙ sym c.recs.ensures.recs) ∙ c.count_up_to-kept.ensures.taken ∙ ap (up_to c.args.after) c.recs.ensures.recs in
    let l = listed c.args.after c.args.given.now c.args.self.now front c.recs.ensures.track c.requires front_is in
    record { track = l.front_is_track }

pub fitting_records-taken-requires : goal.fitting_records-taken-requires
fitting_records-taken-requires c =
    record { track = above_is_track c.args.after c.args.given.now c.requires }

pub track_size-requires : goal.track_size-requires
track_size-requires c =
    let front = take c.count_up_to-kept.result c.recs-2.result.now in
    let front_is : front ≡ up_to c.args.after c.args.self.now =
    ap (take c.count_up_to-kept.result) (c.recs-2.ensures.recs ∙ sym c.recs.ensures.recs) ∙ c.count_up_to-kept.ensures.taken ∙ ap (up_to c.args.after) c.recs.ensures.recs in
    let l = listed c.args.after c.args.given.now c.args.self.now front c.recs.ensures.track c.requires front_is in
    let taken_is : c.fitting_records-taken.result.now ≡ fitting (capacity - track_size front) c.args.given.now = c.fitting_records-taken.ensures ∙ ap (λ n. fitting (capacity - n) c.args.given.now) c.track_size-front_size.ensures in
    record { track = subst (λ (t : List Rec). IsTrack t) (sym taken_is) l.taken_is_track }

pub overflow_add-used : goal.overflow_add-used
overflow_add-used c =
    let front = take c.count_up_to-kept.result c.recs-2.result.now in
    let front_is : front ≡ up_to c.args.after c.args.self.now =
    ap (take c.count_up_to-kept.result) (c.recs-2.ensures.recs ∙ sym c.recs.ensures.recs) ∙ c.count_up_to-kept.ensures.taken ∙ ap (up_to c.args.after) c.recs.ensures.recs in
    let l = listed c.args.after c.args.given.now c.args.self.now front c.recs.ensures.track c.requires front_is in
    let taken_is : c.fitting_records-taken.result.now ≡ fitting (capacity - track_size front) c.args.given.now = c.fitting_records-taken.ensures ∙ ap (λ n. fitting (capacity - n) c.args.given.now) c.track_size-front_size.ensures in
    omega (arith, l.front_size, c.track_size-front_size.ensures, c.track_size.ensures, ap track_size taken_is, track_sizes (fitting (capacity - track_size front) c.args.given.now) l.taken_is_track)

pub overflow_cast-self : goal.overflow_cast-self
overflow_cast-self c =
    let front = take c.count_up_to-kept.result c.recs-2.result.now in
    let front_is : front ≡ up_to c.args.after c.args.self.now =
    ap (take c.count_up_to-kept.result) (c.recs-2.ensures.recs ∙ sym c.recs.ensures.recs) ∙ c.count_up_to-kept.ensures.taken ∙ ap (up_to c.args.after) c.recs.ensures.recs in
    let l = listed c.args.after c.args.given.now c.args.self.now front c.recs.ensures.track c.requires front_is in
    let taken_is : c.fitting_records-taken.result.now ≡ fitting (capacity - track_size front) c.args.given.now = c.fitting_records-taken.ensures ∙ ap (λ n. fitting (capacity - n) c.args.given.now) c.track_size-front_size.ensures in
    omega (arith, l.front_size, c.track_size-front_size.ensures, c.track_size.ensures, ap track_size taken_is, track_sizes (fitting (capacity - track_size front) c.args.given.now) l.taken_is_track)

pub invariant_of-self-2 : goal.invariant_of-self-2
invariant_of-self-2 c =
    let front = take c.count_up_to-kept.result c.recs-2.result.now in
    let front_is : front ≡ up_to c.args.after c.args.self.now =
    ap (take c.count_up_to-kept.result) (c.recs-2.ensures.recs ∙ sym c.recs.ensures.recs) ∙ c.count_up_to-kept.ensures.taken ∙ ap (up_to c.args.after) c.recs.ensures.recs in
    let l = listed c.args.after c.args.given.now c.args.self.now front c.recs.ensures.track c.requires front_is in
    let taken_is : c.fitting_records-taken.result.now ≡ fitting (capacity - track_size front) c.args.given.now = c.fitting_records-taken.ensures ∙ ap (λ n. fitting (capacity - n) c.args.given.now) c.track_size-front_size.ensures in
    let whole : c.replace_after.new.recs.items ≡ front ++ fitting (capacity - track_size front) c.args.given.now =
    c.in_ok-replace_after.ensures.ok ∙ ap (λ (t : List Rec). take c.count_up_to-kept.result t ++ c.in_ok-copied_records.field-0.items) (c.self.view_is ∙ sym c.recs-2.ensures.recs) ∙ ap (λ (t : List Rec). front ++ t) (c.in_ok-copied_records.ensures ∙ taken_is) in
    (subst (λ (t : List Rec). IsTrack t) (sym whole) l.is_track, omega (arith, ap track_size whole, l.sizes, c.track_size-front_size.ensures, c.track_size.ensures, ap track_size taken_is))

pub returns-clause-ok : goal.returns-clause-ok
returns-clause-ok c =
    let front = take c.count_up_to-kept.result c.recs-2.result.now in
    let front_is : front ≡ up_to c.args.after c.args.self.now =
    ap (take c.count_up_to-kept.result) (c.recs-2.ensures.recs ∙ sym c.recs.ensures.recs) ∙ c.count_up_to-kept.ensures.taken ∙ ap (up_to c.args.after) c.recs.ensures.recs in
    let taken_is : c.fitting_records-taken.result.now ≡ fitting (capacity - track_size front) c.args.given.now = c.fitting_records-taken.ensures ∙ ap (λ n. fitting (capacity - n) c.args.given.now) c.track_size-front_size.ensures in
    let whole : c.replace_after.new.recs.items ≡ front ++ fitting (capacity - track_size front) c.args.given.now =
    c.in_ok-replace_after.ensures.ok ∙ ap (λ (t : List Rec). take c.count_up_to-kept.result t ++ c.in_ok-copied_records.field-0.items) (c.self.view_is ∙ sym c.recs-2.ensures.recs) ∙ ap (λ (t : List Rec). front ++ t) (c.in_ok-copied_records.ensures ∙ taken_is) in
    whole ∙ listed_found c.args.after c.last_number.result c.args.given.now c.args.self.now front c.recs.ensures.track front_is c.last_number.ensures c.if-last_number-after.false
