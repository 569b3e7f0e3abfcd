-- The rounds of the iterative method, for any fair aim: what a search comes to lies in the block that it starts from and holds every cell that is
-- reached; the rounds are few; and the bound on them never cuts a search short.
-- Assumes nothing.
use mathlib.Core.Path.{◌≡◌, refl, sym, ap, ◌∙◌}
use mathlib.Core.Bool.{Bool, true, false}
use mathlib.Core.List.Memᴰ
use mathlib.Core.List.{Memᴰ}
use mathlib.Core.Logic.{◌⊎◌, inl, inr, dite}
use Prim.Native.Nat.{ℕ, zero, suc, ◌+◌, ◌≤◌}
use native.Mathlib.Decide.{dec_lt}
use native.Mathlib.Nat.{suc-add}
use native.Mathlib.Omega.{arith}
use Rattle.ints.proofs.Parts.{true_false}
use Rattle.grid.specs.declared.Cell.{Cell}
use Rattle.rows.specs.Row.{is_empty, same_row}
use Rattle.rows.specs.declared.Row.{Row}
use Rattle.rows.proofs.RowLaws.{same_row_refl}
use Rattle.methods.specs.Reach.{cells_of}
use Rattle.methods.specs.Aims.{Aim}
use Rattle.methods.specs.Fair.{Fair}
use Rattle.methods.specs.Methods.{Rows, missing, found, cells_found, bounds_in, iterated, is_reached}
use Rattle.methods.specs.Claims.{ValidRows}
use Rattle.methods.specs.declared.Block.{Block}
use Rattle.methods.proofs.Blocks.{cells_have, cells_within, within_grid_on}
use Rattle.methods.proofs.Nesting.{size, no_smaller, in_bounds, next, Shrinking, next_shrinking, expand_holds, not_missing}

-- ---- one round

data Round (rows : Rows) (before : Row) (b : Block) : Type 0 where
  none : is_empty (bounds_in rows b) ≡ true → Round rows before b
  same : is_empty (bounds_in rows b) ≡ false → same_row (bounds_in rows b) before ≡ true → Round rows before b
  onward : is_empty (bounds_in rows b) ≡ false → same_row (bounds_in rows b) before ≡ false → Round rows before b

round : (rows : Rows) (before : Row) (b : Block) → Round rows before b
round rows before b = go (is_empty (bounds_in rows b)) refl (same_row (bounds_in rows b) before) refl
  where
    go : (s : Bool) → is_empty (bounds_in rows b) ≡ s → (t : Bool) → same_row (bounds_in rows b) before ≡ t → Round rows before b
    go true e t h = none e
    go false e true h = same e h
    go false e false h = onward e h

module _ (rows : Rows) (aim : Aim) (n : ℕ) (before : Row) (b : Block) (r : ℕ) where
  pub none_is : is_empty (bounds_in rows b) ≡ true → iterated (suc n) rows aim before b r ≡ record { block = missing; rounds = suc r }
  unfolding iterated
  none_is e = rw (e, iterated)

  pub same_is : is_empty (bounds_in rows b) ≡ false → same_row (bounds_in rows b) before ≡ true → iterated (suc n) rows aim before b r ≡ record { block = found b; rounds = r }
  unfolding iterated
  same_is e h = rw (e, iterated) (rw h)

  pub onward_is : is_empty (bounds_in rows b) ≡ false → same_row (bounds_in rows b) before ≡ false
      → iterated (suc n) rows aim before b r ≡ iterated n rows aim (bounds_in rows b) (next rows aim b) (suc r)
  unfolding iterated
  onward_is e h = rw (e, iterated) (rw h)

zero_is : (rows : Rows) (aim : Aim) (before : Row) (b : Block) (r : ℕ) → iterated 0 rows aim before b r ≡ record { block = found b; rounds = r }
unfolding iterated
zero_is rows aim before b r = refl

-- a round counts where bounds are missing or differ from those before
abbrev pub Counts : Rows → Row → Block → Type 0
Counts rows before b = (is_empty (bounds_in rows b) ≡ true) ⊎ (same_row (bounds_in rows b) before ≡ false)

-- the count so far, of at most `most` - 1
pub record Few (rows : Rows) (most : ℕ) (before : Row) (b : Block) (r : ℕ) : Type 0 where
  pub fewer : r + 1 ≤ most
  pub one_more : Counts rows before b → r + size b ≤ most

module _ (rows : Rows) (valid : ValidRows rows) (aim : Aim) (fair : Fair aim) where
  -- the cells that a search comes to are among those that it starts from
  pub search_within : (n : ℕ) (before : Row) (b : Block) (r : ℕ) → Shrinking rows aim b → {c : Cell} → Memᴰ c (cells_found (iterated n rows aim before b r).block) → Memᴰ c (cells_of b)
  search_within zero before b r s m = rw zero_is at m
  search_within (suc n) before b r s {c} m = go (round rows before b) (λ k. search_within n (bounds_in rows b) (next rows aim b) (suc r) k {c = c})
    where
      go :
          Round rows before b
          → (Shrinking rows aim (next rows aim b) → Memᴰ c (cells_found (iterated n rows aim (bounds_in rows b) (next rows aim b) (suc r)).block) → Memᴰ c (cells_of (next rows aim b)))
          → Memᴰ c (cells_of b)
      go (none e) ih = absurd (Memᴰ.not-nil (rw (none_is rows aim n before b r e) at m))
      go (same e h) ih = rw (same_is rows aim n before b r e h) at m
      go (onward e h) ih = cells_within s.inside (ih (next_shrinking rows valid aim fair s e) (rw (onward_is rows aim n before b r e h) at m))

  -- and a cell that is reached stays among them
  pub search_keeps :
      (n : ℕ) (before : Row) (b : Block) (r : ℕ)
      → Shrinking rows aim b
      → {c : Cell}
      → is_reached rows aim c ≡ true
      → Memᴰ c (cells_of b)
      → Memᴰ c (cells_found (iterated n rows aim before b r).block)
  search_keeps zero before b r s w m = rw zero_is m
  search_keeps (suc n) before b r s {c} w m = go (round rows before b) (λ k. search_keeps n (bounds_in rows b) (next rows aim b) (suc r) k w)
    where
      go :
          Round rows before b
          → (Shrinking rows aim (next rows aim b) → Memᴰ c (cells_of (next rows aim b)) → Memᴰ c (cells_found (iterated n rows aim (bounds_in rows b) (next rows aim b) (suc r)).block))
          → Memᴰ c (cells_found (iterated (suc n) rows aim before b r).block)
      go (none e) ih = absurd (not_missing rows valid aim w s.on m e)
      go (same e h) ih = rw (same_is rows aim n before b r e h) m
      go (onward e h) ih =
          rw (onward_is rows aim n before b r e h)
          (ih (next_shrinking rows valid aim fair s e)
          (cells_have (next rows aim b) (expand_holds rows valid aim fair (within_grid_on s.on m) w (in_bounds rows b m))))

  -- a counted round leaves a smaller block, or the next one does not count
  few_next :
      {most : ℕ} {before : Row} {b : Block} {r : ℕ}
      → Shrinking rows aim b
      → Few rows most before b r
      → is_empty (bounds_in rows b) ≡ false
      → same_row (bounds_in rows b) before ≡ false
      → Few rows most (bounds_in rows b) (next rows aim b) (suc r)
  few_next {most} {before} {b} {r} s f e h =
      let k = f.one_more (inr h) in
      let o = (next_shrinking rows valid aim fair s e).ordered in
      let p = s.ordered in
      record {
        fewer = omega arith;
        one_more = λ c. dite (dec_lt (size (next rows aim b)) (size b)) (λ l. omega arith) (λ l. absurd (again c (no_smaller s.inside o l)));
      }
    where
      again : Counts rows (bounds_in rows b) (next rows aim b) → next rows aim b ≡ b → ⊥
      again (inl i) p = true_false (sym i ∙ ap (λ (a : Block). is_empty (bounds_in rows a)) p ∙ e)
      again (inr i) p = true_false (sym (same_row_refl (bounds_in rows b)) ∙ sym (ap (λ (a : Block). same_row (bounds_in rows a) (bounds_in rows b)) p) ∙ i)

  pub search_few : (n most : ℕ) (before : Row) (b : Block) (r : ℕ) → Shrinking rows aim b → Few rows most before b r → (iterated n rows aim before b r).rounds + 1 ≤ most
  search_few zero most before b r s f = rw zero_is f.fewer
  search_few (suc n) most before b r s f = go (round rows before b) (search_few n most (bounds_in rows b) (next rows aim b) (suc r))
    where
      go :
          Round rows before b
          → (Shrinking rows aim (next rows aim b) → Few rows most (bounds_in rows b) (next rows aim b) (suc r) → (iterated n rows aim (bounds_in rows b) (next rows aim b) (suc r)).rounds + 1 ≤ most)
          → (iterated (suc n) rows aim before b r).rounds + 1 ≤ most
      go (none e) ih = rw (none_is rows aim n before b r e) (let p = s.ordered in omega (arith, f.one_more (inl e)))
      go (same e h) ih = rw (same_is rows aim n before b r e h) f.fewer
      go (onward e h) ih = rw (onward_is rows aim n before b r e h) (ih (next_shrinking rows valid aim fair s e) (few_next s f e h))

  -- a search that has counted all the rounds there can be is at its end
  at_end : (m most : ℕ) (before : Row) (b : Block) (r : ℕ) → Shrinking rows aim b → Few rows most before b r → most ≤ r + 1 → iterated m rows aim before b r ≡ record { block = found b; rounds = r }
  at_end zero most before b r s f l = zero_is rows aim before b r
  at_end (suc m) most before b r s f l = go (round rows before b)
    where
      go : Round rows before b → iterated (suc m) rows aim before b r ≡ record { block = found b; rounds = r }
      go (none e) = absurd (let p = s.ordered in omega (arith, f.one_more (inl e)))
      go (same e h) = same_is rows aim m before b r e h
      go (onward e h) = absurd (let p = s.ordered in omega (arith, f.one_more (inr h)))

  -- more rounds than there can be change nothing
  pub search_ends :
      (n m most : ℕ) (before : Row) (b : Block) (r : ℕ)
      → Shrinking rows aim b
      → Few rows most before b r
      → most ≤ r + n + 1
      → iterated (n + m) rows aim before b r ≡ iterated n rows aim before b r
  search_ends zero m most before b r s f l =
      at_end (0 + m) most before b r s f (omega arith) ∙ sym (zero_is rows aim before b r)
  search_ends (suc n) m most before b r s f l = rw (suc-add n m) (go (round rows before b) (search_ends n m most (bounds_in rows b) (next rows aim b) (suc r)))
    where
      go :
          Round rows before b
          → (Shrinking rows aim (next rows aim b)
          → Few rows most (bounds_in rows b) (next rows aim b) (suc r)
          → most ≤ suc r + n + 1
          → iterated (n + m) rows aim (bounds_in rows b) (next rows aim b) (suc r) ≡ iterated n rows aim (bounds_in rows b) (next rows aim b) (suc r))
          → iterated (suc (n + m)) rows aim before b r ≡ iterated (suc n) rows aim before b r
      go (none e) ih = none_is rows aim (n + m) before b r e ∙ sym (none_is rows aim n before b r e)
      go (same e h) ih = same_is rows aim (n + m) before b r e h ∙ sym (same_is rows aim n before b r e h)
      go (onward e h) ih =
          onward_is rows aim (n + m) before b r e h
          ∙ ih (next_shrinking rows valid aim fair s e) (few_next s f e h) (omega arith)
          ∙ sym (onward_is rows aim n before b r e h)
