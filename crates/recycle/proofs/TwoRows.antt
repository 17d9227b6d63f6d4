-- A table with two rows: a use row and a hold row.
use Rattle.std.proofs.Common.{suc, ◌≡◌, ◌<◌, ◌++◌, ◌∙◌, arith, refl, sym, ap, subst, List, [], ◌∷◌, All, length, length-append}
use Rattle.std.proofs.lemmas.List.Elements.{All-head, All-tail}
use Rattle.op_vector.specs.declared.data.Vid.{Vid}
use Rattle.vnode_rec.specs.Holders.{row_in, pushed}
use Rattle.vnode_rec.specs.Vnodes.{Table, HasRoom}
use Rattle.vnode_rec.specs.Effects.{took, LeftRow}
use Rattle.std.specs.List.{slice_set}

-- two rows with nothing in them
pub two_rows : (rows : List (List Vid)) → length rows ≡ 2 → All (λ row. row ≡ []) rows → rows ≡ [] ∷ [] ∷ []
two_rows [] two all = absurd (omega (arith, two))
two_rows (a ∷ []) two all = absurd (omega (arith, two))
two_rows (a ∷ b ∷ []) two all = (
    let first : a ≡ [] = All-head (λ row. row ≡ []) a (b ∷ []) all in
    let second : b ≡ [] = All-head (λ row. row ≡ []) b [] (All-tail (λ row. row ≡ []) a (b ∷ []) all) in
    rw first (rw second refl)
    )
two_rows (a ∷ b ∷ c ∷ rows) two all = absurd (omega (arith, two))

module _ (first : List Vid) (rows : List (List Vid)) (is : rows ≡ first ∷ [] ∷ []) where
  -- the second row has room
  pub second_short : length (row_in rows 1) < 9
  second_short = subst (λ r. length (row_in r 1) < 9) (sym is) (omega arith)

  pub second_is : 1 < length rows
  second_is = subst (λ r. 1 < length r) (sym is) (omega arith)

  pub second_has_room : HasRoom rows
  second_has_room = (1, second_is, second_short)

  -- a vnode is put on the second row
  pub second_taken : (v : Vid) → pushed 1 v rows ≡ first ∷ (v ∷ []) ∷ []
  second_taken v = subst (λ r. pushed 1 v r ≡ first ∷ (v ∷ []) ∷ []) (sym is) refl

module _ (rows : List (List Vid)) (is : rows ≡ [] ∷ [] ∷ []) where
  -- the first row has room
  pub first_short : length (row_in rows 0) < 9
  first_short = subst (λ r. length (row_in r 0) < 9) (sym is) (omega arith)

  -- a vnode is put on the first row
  pub first_taken : (v : Vid) → pushed 0 v rows ≡ (v ∷ []) ∷ [] ∷ []
  first_taken v = subst (λ r. pushed 0 v r ≡ (v ∷ []) ∷ [] ∷ []) (sym is) refl

module _ (first : List Vid) (v : Vid) (rows : List (List Vid)) (is : rows ≡ first ∷ (v ∷ []) ∷ []) where
  pub second_there : 1 < length rows
  second_there = subst (λ r. 1 < length r) (sym is) (omega arith)

  pub second_some : 0 < length (row_in rows 1)
  second_some = subst (λ r. 0 < length (row_in r 1)) (sym is) (omega arith)

  -- and is emptied
  pub second_emptied : slice_set rows 1 [] ≡ first ∷ [] ∷ []
  second_emptied = subst (λ r. slice_set r 1 [] ≡ first ∷ [] ∷ []) (sym is) refl

module _ (v : Vid) (rows : List (List Vid)) (is : rows ≡ (v ∷ []) ∷ [] ∷ []) where
  pub first_some : 0 < length (row_in rows 0)
  first_some = subst (λ r. 0 < length (row_in r 0)) (sym is) (omega arith)

-- nothing stands before the only element of a list
alone : (v w : Vid) (row : List Vid) → v ∷ [] ≡ row ++ w ∷ [] → row ≡ []
alone v w [] e = refl
alone v w (x ∷ row) e = absurd (let n : 1 ≡ suc (length (row ++ w ∷ [])) = ap length e in omega (arith, n, length-append row (w ∷ [])))

-- the only vnode of the second row is let go
second_left : {X : Type 0} (first : List Vid) (v w : Vid) (t u : Table X) → t.rows ≡ first ∷ (v ∷ []) ∷ [] → LeftRow 1 t w u → u.rows ≡ first ∷ [] ∷ []
second_left first v w t u is left = (
    let was : v ∷ [] ≡ row_in u.rows 1 ++ w ∷ [] = subst (λ r. row_in r 1 ≡ row_in u.rows 1 ++ w ∷ []) is left.was in
    let none : row_in u.rows 1 ≡ [] = alone v w (row_in u.rows 1) was in
    let now : u.rows ≡ slice_set t.rows 1 (row_in u.rows 1) = ap (λ x. x.rows) left.now in
    now ∙ subst (λ row. slice_set t.rows 1 (row_in u.rows 1) ≡ slice_set t.rows 1 row) none refl ∙ subst (λ r. slice_set r 1 [] ≡ first ∷ [] ∷ []) (sym is) refl
    )

-- a vnode is put on the second row and let go
pub second_row : {X : Type 0} (first : List Vid) (v w : Vid) (s t u : Table X) → s.rows ≡ first ∷ [] ∷ [] → t ≡ took 1 v s → LeftRow 1 t w u → u.rows ≡ first ∷ [] ∷ []
second_row first v w s t u is put left = second_left first v w t u (ap (λ x. x.rows) put ∙ second_taken first s.rows is v) left
