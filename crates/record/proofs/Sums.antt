-- A record's bytes added up, and when a record is sound. Assumes nothing.
use Rattle.std.proofs.Common.{◌≡◌, ℕ, ◌+◌, ◌*◌, ◌%◌, ◌<◌, true, false, eqb, List, [], ◌∷◌, get_or, fold, ◌∙◌, arith, ne_eqb, eqb-true}
use Rattle.laws.proofs.Split.{by_bool, and_true, and_right_false}
use Rattle.record.specs.Record.{length_of, offset_of, type_of, suits, sum_of, sound}

-- a sum that is kept modulo 256 on the way
pub sum_fold : (s : ℕ) (xs : List ℕ) → s < 256 → fold (λ a x. (a + x) % 256) s xs ≡ (s + sum_of xs) % 256
unfolding sum_of
sum_fold s [] h = omega arith
sum_fold s (x ∷ xs) h =
    let r = (s + x) % 256 in
    let k : r < 256 = omega arith in
    let e : (r + sum_of xs) % 256 ≡ (s + (x + sum_of xs)) % 256 = omega arith in
    sum_fold r xs k ∙ e

-- only data have an offset
pub suits_at_0 : (type bytes offset : ℕ) → (type ≡ 0 → ⊥) → (offset ≡ 0 → ⊥) → suits type bytes offset ≡ false
unfolding suits
suits_at_0 type bytes offset n o =
    rw (ne_eqb type 0 n, ne_eqb offset 0 o, and_right_false (eqb bytes 0), and_right_false (eqb bytes 2), and_right_false (eqb bytes 4))
    (by_bool (eqb type 1) (λ e. rw e) (λ e. rw e (by_bool (eqb type 4) (λ f. rw f) (λ f. rw f (by_bool (eqb type 5) (λ g. rw g) (λ g. rw g))))))

-- a record whose type does not suit it is not sound; with one that does, its sum tells
module _ (r : List ℕ) (offset : ℕ) (is : offset ≡ get_or r 1 0 * 256 + get_or r 2 0) where
  pub unsuited : suits (get_or r 3 0) (get_or r 0 0) offset ≡ false → false ≡ sound r
  unfolding sound type_of length_of offset_of
  unsuited e = rw (← is, e)

  pub suited : (s : ℕ) → suits (get_or r 3 0) (get_or r 0 0) offset ≡ true → s ≡ sum_of r % 256 → eqb s 0 ≡ sound r
  unfolding sound type_of length_of offset_of
  suited s e t = rw (← is, e, t)

-- a sound record of type 04 has two bytes of data
pub upper_two : (r : List ℕ) → sound r ≡ true → type_of r ≡ 4 → length_of r ≡ 2
unfolding sound suits
upper_two r h e =
    let p = (and_true (suits (type_of r) (length_of r) (offset_of r)) (eqb (sum_of r % 256) 0) h).0 in
    eqb-true _ _ (and_true (eqb (length_of r) 2) (eqb (offset_of r) 0) (rw e at p)).0
