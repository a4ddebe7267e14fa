-- A test keeps the order of what passes it, and items of which none is below another keep their positions.
use Rattle.std.proofs.Common.{◌≡◌, Bool, true, false, not, List, [], ◌∷◌, inl, inr, refl, ap, ◌∙◌}
use Rattle.std.specs.List.{filter}
use Rattle.std.proofs.lemmas.Bool.{cases_Bool, and_parts, and_from, not_from_false}
use Rattle.xrc_edge.specs.Order.{put_in_order, in_order, is_in_order}
use Rattle.xrc_edge.proofs.OrderLaws.{IsOrder, none_below, none_below_through, put_first, order_orders}

pub none_below_filter : {A : Type 0} (below : A → A → Bool) (p : A → Bool) (a : A) (items : List A) → none_below below a items ≡ true → none_below below a (filter p items) ≡ true
none_below_filter below p a [] e = refl
none_below_filter below p a (b ∷ items) e =
    let parts = and_parts (not (below b a)) (none_below below a items) e in
    let rest = none_below_filter below p a items parts.1 in
    elim (cases_Bool (p b)) [
      | inl pb ↦ simp pb (and_from (not (below b a)) (none_below below a (filter p items)) parts.0 rest)
      | inr pb ↦ simp pb rest
    ]

-- a test on an item that is put in order
filter_put_yes : {A : Type 0} (below : A → A → Bool) → IsOrder below → (p : A → Bool) (a : A) (items : List A) → p a ≡ true → is_in_order below items ≡ true
    → filter p (put_in_order below a items) ≡ put_in_order below a (filter p items)
filter_put_yes below order p a [] pa e = simp pa
filter_put_yes below order p a (b ∷ items) pa e =
    let parts = and_parts (none_below below b items) (is_in_order below items) e in
    let rest = filter_put_yes below order p a items pa parts.1 in
    elim (cases_Bool (below b a)) [
      | inl ba ↦ elim (cases_Bool (p b)) [
        | inl pb ↦ simp (ba, pb, rest)
        | inr pb ↦ simp (ba, pb, rest)
      ]
      | inr ba ↦
          let above = and_from (not (below b a)) (none_below below a items) (not_from_false (below b a) ba) (none_below_through below order a b items ba parts.0) in
          let first = put_first below a (filter p (b ∷ items)) (none_below_filter below p a (b ∷ items) above) in
          rw (ba, first) (simp pa)
    ]

filter_put_no : {A : Type 0} (below : A → A → Bool) (p : A → Bool) (a : A) (items : List A) → p a ≡ false → filter p (put_in_order below a items) ≡ filter p items
filter_put_no below p a [] pa = simp pa
filter_put_no below p a (b ∷ items) pa =
    elim (cases_Bool (below b a)) [
      | inl ba ↦ elim (cases_Bool (p b)) [
        | inl pb ↦ simp (ba, pb, filter_put_no below p a items pa)
        | inr pb ↦ simp (ba, pb, filter_put_no below p a items pa)
      ]
      | inr ba ↦ simp (ba, pa)
    ]

pub filter_order : {A : Type 0} (below : A → A → Bool) → IsOrder below → (p : A → Bool) (items : List A) → filter p (in_order below items) ≡ in_order below (filter p items)
filter_order below order p [] = refl
filter_order below order p (a ∷ items) =
    elim (cases_Bool (p a)) [
      | inl pa ↦ simp pa (filter_put_yes below order p a (in_order below items) pa (order_orders below order items) ∙ ap (put_in_order below a) (filter_order below order p items))
      | inr pa ↦ simp pa (filter_put_no below p a (in_order below items) pa ∙ filter_order below order p items)
    ]
