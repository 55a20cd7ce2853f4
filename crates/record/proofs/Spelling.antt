-- When a text begins with a line that spells a record, and what stands where then. Assumes nothing.
use Rattle.std.proofs.Common.{◌≡◌, ℕ, zero, suc, ◌+◌, ◌-◌, ◌*◌, ◌<◌, ◌≤◌, true, false, ◌&&◌, ◌||◌, eqb, ◌⊎◌, List, [], ◌∷◌, ◌++◌, length, get_or, take, drop, sym, refl, ap, ◌∙◌, ap₂, inl, inr, ⊎_elim, true≢false, append_assoc, add-one, arith, length-append, length-drop, take-append-drop, length-take-le, get_or-drop, drop-cons, get_or-take, take-take, drop-drop, take_at, drop_at, eq-eqb, ne_eqb, eqb-true}
use lib.ListN.{get_or-append, get_or-eq_default}
use Rattle.laws.proofs.Split.{by_bool, by_eq, by_lt, and_true}
use Rattle.laws.specs.Lists.{same}
use Rattle.laws.proofs.Lists.{same_refl, same_eq}
use Rattle.laws.specs.Lines.{first_line}
use Rattle.laws.proofs.Lines.{first_rest, first_past}
use Rattle.digit.specs.Digit.{byte_of, value_of}
use Rattle.hexfield.specs.Hex.{all_digits, bytes_of}
use Rattle.hexfield.proofs.Fields.{digit_at, digits_take, digits_no_end}
use Rattle.record.specs.Record.{length_in, digits_in, ended, spelled, record_in}
use Rattle.record.specs.Ways.{line_end, spelled_length}

-- LF, or CR LF
abbrev pub Ends : List ℕ → Type 0
Ends e = (e ≡ 10 ∷ []) ⊎ (e ≡ 13 ∷ 10 ∷ [])

-- u begins with a line that spells a record: the mark, digits, an end; r is what comes after it
pub record Spells (u : List ℕ) : Type 0 where
  pub ds : List ℕ
  pub e : List ℕ
  pub r : List ℕ
  pub digits : all_digits ds ≡ true
  pub twice : length ds ≡ (5 + length_in u) * 2
  pub ends : Ends e
  pub is : u ≡ 58 ∷ (ds ++ (e ++ r))

pub ends_some : (e : List ℕ) → Ends e → 1 ≤ length e
ends_some e = ⊎_elim (λ w. rw w (omega arith)) (λ w. rw w (omega arith))

first_end : (e r : List ℕ) → Ends e → first_line (e ++ r) ≡ e
unfolding first_line
first_end e r = ⊎_elim (λ w. rw w) (λ w. rw w)

-- the length field is in the first digits
pub length_in_lem : (ds s : List ℕ) → 2 ≤ length ds → length_in (58 ∷ (ds ++ s)) ≡ byte_of (get_or ds 0 0) (get_or ds 1 0)
unfolding length_in
length_in_lem ds s h =
    let a : get_or (ds ++ s) 0 0 ≡ get_or ds 0 0 = get_or-append ds s 0 0 (omega arith) in
    let b : get_or (ds ++ s) 1 0 ≡ get_or ds 1 0 = get_or-append ds s 0 1 (omega arith) in
    ap₂ byte_of a b

same_of : (e a : List ℕ) → e ≡ a → same e a ≡ true
same_of e a w = ap (λ (l : List ℕ). same l a) w ∙ same_refl a

module _ {u : List ℕ} (q : Spells u) where
  long : 10 ≤ length q.ds
  long = let t = q.twice in omega arith

  none : (i : ℕ) → i < length (58 ∷ q.ds) → get_or (58 ∷ q.ds) i 0 ≡ 10 → ⊥
  none zero k x = omega arith
  none (suc i) k x =
      let l : i < length q.ds = omega arith in
      digits_no_end q.ds q.digits i l x

  pub spells_first : first_line u ≡ 58 ∷ (q.ds ++ q.e)
  spells_first =
      ap first_line q.is
      ∙ first_past (58 ∷ q.ds) (q.e ++ q.r) none
      ∙ ap (λ (l : List ℕ). 58 ∷ (q.ds ++ l)) (first_end q.e q.r q.ends)

  pub spells_length_here : length_in u ≡ byte_of (get_or q.ds 0 0) (get_or q.ds 1 0)
  spells_length_here = ap length_in q.is ∙ length_in_lem q.ds (q.e ++ q.r) (let h : 2 ≤ length q.ds = let l = long in omega arith in h)

  pub spells_length_in : length_in (first_line u) ≡ length_in u
  spells_length_in =
      let h : 2 ≤ length q.ds = let l = long in omega arith in
      ap length_in spells_first ∙ length_in_lem q.ds q.e h ∙ sym spells_length_here

  fits : length q.ds ≡ (5 + length_in (first_line u)) * 2
  fits = q.twice ∙ ap (λ (n : ℕ). (5 + n) * 2) (sym spells_length_in)

  pub spells_digits : digits_in (first_line u) ≡ q.ds
  unfolding digits_in
  spells_digits = ap (λ (l : List ℕ). take ((5 + length_in (first_line u)) * 2) (drop 1 l)) spells_first ∙ take_at q.ds q.e ((5 + length_in (first_line u)) * 2) fits

  pub spells_record : record_in (first_line u) ≡ bytes_of q.ds
  unfolding record_in
  spells_record = ap bytes_of spells_digits

  behind : drop ((5 + length_in (first_line u)) * 2) (drop 1 (first_line u)) ≡ q.e
  behind = ap (λ (l : List ℕ). drop ((5 + length_in (first_line u)) * 2) (drop 1 l)) spells_first ∙ drop_at q.ds q.e ((5 + length_in (first_line u)) * 2) fits

  ended_here : ended (first_line u) ≡ true
  unfolding ended
  ended_here =
      rw behind
      (⊎_elim (λ w. let t : same q.e (10 ∷ []) ≡ true = same_of q.e (10 ∷ []) w in rw t)
      (λ w.
      let t : same q.e (13 ∷ 10 ∷ []) ≡ true = same_of q.e (13 ∷ 10 ∷ []) w in
      by_bool (same q.e (10 ∷ [])) (λ b. rw b) (λ b. rw (b, t)))
      q.ends)

  pub spells_spelled : spelled (first_line u) ≡ true
  unfolding spelled
  spells_spelled =
      let k : get_or (first_line u) 0 0 ≡ 58 = ap (λ (l : List ℕ). get_or l 0 0) spells_first in
      rw (eq-eqb (get_or (first_line u) 0 0) 58 k, ap all_digits spells_digits ∙ q.digits, ended_here)

  pub spells_length : length (first_line u) ≡ 11 + length_in u * 2 + length q.e
  spells_length =
      let t = q.twice in
      let l : length (58 ∷ (q.ds ++ q.e)) ≡ 1 + (length q.ds + length q.e) = simp length-append (omega arith) in
      let s : 1 + (length q.ds + length q.e) ≡ 11 + length_in u * 2 + length q.e = omega arith in
      ap length spells_first ∙ l ∙ s

  -- how long u is, and what stands in it
  pub spells_size : length u ≡ 11 + length_in u * 2 + length q.e + length q.r
  spells_size =
      let t = q.twice in
      let l : length (58 ∷ (q.ds ++ (q.e ++ q.r))) ≡ 1 + (length q.ds + (length q.e + length q.r)) = simp length-append (omega arith) in
      let s : 1 + (length q.ds + (length q.e + length q.r)) ≡ 11 + length_in u * 2 + length q.e + length q.r = omega arith in
      ap length q.is ∙ l ∙ s

  pub spells_mark : get_or u 0 0 ≡ 58
  spells_mark = ap (λ (l : List ℕ). get_or l 0 0) q.is

  pub spells_field : take ((5 + length_in u) * 2) (drop 1 u) ≡ q.ds
  spells_field = ap (λ (l : List ℕ). take ((5 + length_in u) * 2) (drop 1 l)) q.is ∙ take_at q.ds (q.e ++ q.r) ((5 + length_in u) * 2) q.twice

  pub spells_end : drop (11 + length_in u * 2) u ≡ q.e ++ q.r
  spells_end =
      let n = (5 + length_in u) * 2 in
      let a : 11 + length_in u * 2 ≡ 1 + n = omega arith in
      ap (λ (k : ℕ). drop k u) a ∙ sym (drop-drop n 1 u) ∙ ap (λ (l : List ℕ). drop n (drop 1 l)) q.is ∙ drop_at q.ds (q.e ++ q.r) n q.twice

-- what spells a record in the first line has it in front
some_if : (l : List ℕ) → get_or l 0 0 ≡ 58 → 0 < length l
some_if [] k = absurd (omega arith)
some_if (x ∷ l) k = omega arith

or_elim : (a b : List ℕ) (e : List ℕ) → (same e a || same e b) ≡ true → (e ≡ a) ⊎ (e ≡ b)
or_elim a b e h = by_bool (same e a) (λ t. inl (same_eq e a t)) (λ f. inr (same_eq e b (rw f at h)))

pub spells : (u : List ℕ) → spelled (first_line u) ≡ true → Spells u
unfolding spelled digits_in ended
spells u h =
    let l = first_line u in
    let n = (5 + length_in l) * 2 in
    let p = and_true (eqb (get_or l 0 0) 58 && all_digits (take n (drop 1 l))) (same (drop n (drop 1 l)) (10 ∷ []) || same (drop n (drop 1 l)) (13 ∷ 10 ∷ [])) h in
    let p₀ = and_true (eqb (get_or l 0 0) 58) (all_digits (take n (drop 1 l))) p.0 in
    let k : get_or l 0 0 ≡ 58 = eqb-true _ _ p₀.0 in
    let e = drop n (drop 1 l) in
    let ends : Ends e = or_elim (10 ∷ []) (13 ∷ 10 ∷ []) e p.1 in
    let le : length e ≡ length (drop 1 l) - n = length-drop n (drop 1 l) in
    let l₁ : length (drop 1 l) ≡ length l - 1 = length-drop 1 l in
    let some = ends_some e ends in
    let room : n ≤ length (drop 1 l) = omega arith in
    let whole : l ≡ 58 ∷ (take n (drop 1 l) ++ e) = drop-cons l 0 0 (some_if l k) ∙ ap₂ (λ (x : ℕ) (t : List ℕ). x ∷ t) k (sym (take-append-drop n (drop 1 l))) in
    let r = drop (length l) u in
    let is : u ≡ 58 ∷ (take n (drop 1 l) ++ (e ++ r)) = sym (first_rest u) ∙ ap (λ (t : List ℕ). t ++ r) whole ∙ ap (λ (t : List ℕ). 58 ∷ t) (append_assoc (take n (drop 1 l)) e r) in
    let size : length (take n (drop 1 l)) ≡ n = length-take-le n (drop 1 l) room in
    let two : 2 ≤ length (take n (drop 1 l)) = omega arith in
    let same_in : length_in u ≡ length_in l = ap length_in is ∙ length_in_lem (take n (drop 1 l)) (e ++ r) two ∙ sym (ap length_in whole ∙ length_in_lem (take n (drop 1 l)) e two) in
    record { ds = take n (drop 1 l); e = e; r = r; digits = p₀.1; twice = size ∙ ap (λ (m : ℕ). (5 + m) * 2) (sym same_in); ends = ends; is = is }

-- what stands so is a line that spells a record
pub spells_if : (u e r : List ℕ) → 0 < length u → get_or u 0 0 ≡ 58 → all_digits (take ((5 + length_in u) * 2) (drop 1 u)) ≡ true → (5 + length_in u) * 2 ≤ length (drop 1 u) → Ends e → drop (11 + length_in u * 2) u ≡ e ++ r → Spells u
spells_if u e r some k digits room ends tail =
    let n = (5 + length_in u) * 2 in
    let a : 11 + length_in u * 2 ≡ 1 + n = omega arith in
    let t : drop n (drop 1 u) ≡ e ++ r = drop-drop n 1 u ∙ ap (λ (m : ℕ). drop m u) (sym a) ∙ tail in
    let is : u ≡ 58 ∷ (take n (drop 1 u) ++ (e ++ r)) = drop-cons u 0 0 some ∙ ap₂ (λ (x : ℕ) (l : List ℕ). x ∷ l) k (sym (take-append-drop n (drop 1 u)) ∙ ap (λ (l : List ℕ). take n (drop 1 u) ++ l) t) in
    record { ds = take n (drop 1 u); e = e; r = r; digits = digits; twice = length-take-le n (drop 1 u) room; ends = ends; is = is }

-- how long the first line is, where it spells a record and where it does not
pub length_good : (u : List ℕ) → spelled (first_line u) ≡ true → spelled_length u ≡ length (first_line u)
unfolding spelled_length
length_good u h = rw h

pub no_spelling : (u : List ℕ) → (Spells u → ⊥) → 0 ≡ spelled_length u
unfolding spelled_length
no_spelling u n = by_bool (spelled (first_line u)) (λ h. absurd (n (spells u h))) (λ h. rw h)

-- what each test tells that fails
pub too_short : (u : List ℕ) → length u ≤ 11 → 0 ≡ spelled_length u
too_short u h =
    no_spelling u
    (λ q.
    let s = spells_size q in
    let t = ends_some q.e q.ends in
    omega arith)

pub no_mark : (u : List ℕ) → (get_or u 0 0 ≡ 58 → ⊥) → 0 ≡ spelled_length u
no_mark u n = no_spelling u (λ q. n (spells_mark q))

-- the digits of the length are among the record's
pub length_digits : (u : List ℕ) → Spells u → all_digits (take 2 (drop 1 u)) ≡ true
length_digits u q =
    let n = (5 + length_in u) * 2 in
    let h : 2 ≤ n = omega arith in
    let e : take 2 (drop 1 u) ≡ take 2 q.ds = sym (take-take 2 n (drop 1 u) h) ∙ ap (take 2) (spells_field q) in
    ap all_digits e ∙ digits_take 2 q.ds q.digits

-- what is to be shown of a line that spells no record may be shown of one that spells one
pub if_spelled : (u : List ℕ) → (Spells u → 0 ≡ spelled_length u) → 0 ≡ spelled_length u
unfolding spelled_length
if_spelled u f = by_bool (spelled (first_line u)) (λ h. f (spells u h)) (λ h. rw h)

-- two digits spell the length
pub length_fit : (u : List ℕ) → all_digits (take 2 (drop 1 u)) ≡ true → 11 < length u → (value_of (get_or u 1 0) < 16) × (value_of (get_or u 2 0) < 16)
length_fit u h long =
    let l₁ : length (drop 1 u) ≡ length u - 1 = length-drop 1 u in
    let room : 2 ≤ length (drop 1 u) = omega arith in
    let two : length (take 2 (drop 1 u)) ≡ 2 = length-take-le 2 (drop 1 u) room in
    let at : (i : ℕ) → i < 2 → value_of (get_or u (1 + i) 0) < 16 = λ i k. rw (get_or-take 2 (drop 1 u) i 0 k, get_or-drop 1 u i 0) at (digit_at (take 2 (drop 1 u)) i h (let m : i < length (take 2 (drop 1 u)) = omega arith in m)) in
    (at 0 (omega arith), at 1 (omega arith))

-- the length as it is told before its digits are looked at
end_is : (u : List ℕ) (n : ℕ) → n ≡ byte_of (get_or u 1 0) (get_or u 2 0) → 11 + n * 2 ≡ 11 + length_in u * 2
unfolding length_in
end_is u n e = rw e

module _ (u : List ℕ) (n : ℕ) (t : (value_of (get_or u 1 0) < 16) × (value_of (get_or u 2 0) < 16) → n ≡ byte_of (get_or u 1 0) (get_or u 2 0)) where
  -- it is right where the line spells a record, and where all is digits up to the end that it tells
  pub told-spelled : Spells u → 11 + n * 2 ≡ 11 + length_in u * 2
  told-spelled q =
      let s = spells_size q in
      let e = ends_some q.e q.ends in
      let long : 11 < length u = omega arith in
      end_is u n (t (length_fit u (length_digits u q) long))

  pub told_digits : 11 + n * 2 < length u → all_digits (take (11 + n * 2 - 1) (drop 1 u)) ≡ true → 11 + n * 2 ≡ 11 + length_in u * 2
  told_digits room h =
      let m = 11 + n * 2 - 1 in
      let two : 2 ≤ m = omega arith in
      let long : 11 < length u = omega arith in
      let e : take 2 (drop 1 u) ≡ take 2 (take m (drop 1 u)) = sym (take-take 2 m (drop 1 u) two) in
      let d : all_digits (take 2 (drop 1 u)) ≡ true = ap all_digits e ∙ digits_take 2 (take m (drop 1 u)) h in
      end_is u n (t (length_fit u d long))

-- end is the place behind the digits
module _ (u : List ℕ) (end : ℕ) (ends : end ≡ 11 + length_in u * 2) where
  pub cut_off : length u ≤ end → 0 ≡ spelled_length u
  cut_off h =
      no_spelling u
      (λ q.
      let s = spells_size q in
      let t = ends_some q.e q.ends in
      omega arith)

  field : end - 1 ≡ (5 + length_in u) * 2
  field = omega arith

  pub no_digits : all_digits (take (end - 1) (drop 1 u)) ≡ false → 0 ≡ spelled_length u
  no_digits e =
      no_spelling u
      (λ q. true≢false (sym q.digits ∙ ap all_digits (sym (spells_field q) ∙ ap (λ (n : ℕ). take n (drop 1 u)) (sym field)) ∙ e))

  module _ (room : end < length u) (k : get_or u 0 0 ≡ 58) (digits : all_digits (take (end - 1) (drop 1 u)) ≡ true) where
    here : (e r : List ℕ) → Ends e → drop end u ≡ e ++ r → Spells u
    here e r w t =
        let some : 0 < length u = omega arith in
        let l₁ : length (drop 1 u) ≡ length u - 1 = length-drop 1 u in
        let fit : (5 + length_in u) * 2 ≤ length (drop 1 u) = omega arith in
        let d : all_digits (take ((5 + length_in u) * 2) (drop 1 u)) ≡ true = ap (λ (n : ℕ). all_digits (take n (drop 1 u))) (sym field) ∙ digits in
        spells_if u e r some k d fit w (ap (λ (n : ℕ). drop n u) (sym ends) ∙ t)

    line-length : (e r : List ℕ) → Ends e → drop end u ≡ e ++ r → spelled_length u ≡ end + length e
    unfolding here spells_if
    line-length e r w t =
        let q = here e r w t in
        let s : length (first_line u) ≡ 11 + length_in u * 2 + length e = spells_length q in
        let x : 11 + length_in u * 2 + length e ≡ end + length e = omega arith in
        length_good u (spells_spelled q) ∙ s ∙ x

    at : drop end u ≡ get_or u end 0 ∷ drop (suc end) u
    at = drop-cons u end 0 room

    with_lf : get_or u end 0 ≡ 10 → end + 1 ≡ spelled_length u
    with_lf e = sym (line-length (10 ∷ []) (drop (suc end) u) (inl refl) (at ∙ ap (λ (x : ℕ). x ∷ drop (suc end) u) e))

    next_is : (b : ℕ) → get_or u (end + 1) 0 ≡ suc b → suc end < length u
    next_is b e =
        by_lt (suc end) (length u) (λ h. h)
        (λ h. let z : get_or u (end + 1) 0 ≡ 0 = get_or-eq_default u 0 {n = end + 1} (let g : length u ≤ end + 1 = omega arith in g) in absurd (omega arith))

    with_cr_lf : get_or u end 0 ≡ 13 → get_or u (end + 1) 0 ≡ 10 → end + 2 ≡ spelled_length u
    with_cr_lf e f =
        let g : get_or u (suc end) 0 ≡ 10 = ap (λ (n : ℕ). get_or u n 0) (sym (add-one end)) ∙ f in
        let second : drop (suc end) u ≡ 10 ∷ drop (suc (suc end)) u = drop-cons u (suc end) 0 (next_is 9 f) ∙ ap (λ (x : ℕ). x ∷ drop (suc (suc end)) u) g in
        sym (line-length (13 ∷ 10 ∷ []) (drop (suc (suc end)) u) (inr refl) (at ∙ ap₂ (λ (x : ℕ) (l : List ℕ). x ∷ l) e second))

    without : (get_or u end 0 ≡ 10 → ⊥) → ((get_or u end 0 ≡ 13) × (get_or u (end + 1) 0 ≡ 10) → ⊥) → 0 ≡ spelled_length u
    without n m =
        no_spelling u
        (λ q.
        let t : drop end u ≡ q.e ++ q.r = ap (λ (k : ℕ). drop k u) ends ∙ spells_end q in
        let zero_is : end + 0 ≡ end = omega arith in
        let first : get_or u end 0 ≡ get_or (q.e ++ q.r) 0 0 = ap (λ (k : ℕ). get_or u k 0) (sym zero_is) ∙ sym (get_or-drop end u 0 0) ∙ ap (λ (l : List ℕ). get_or l 0 0) t in
        let second : get_or u (end + 1) 0 ≡ get_or (q.e ++ q.r) 1 0 = sym (get_or-drop end u 1 0) ∙ ap (λ (l : List ℕ). get_or l 1 0) t in
        ⊎_elim (λ w. n (first ∙ ap (λ (l : List ℕ). get_or (l ++ q.r) 0 0) w))
        (λ w. m (first ∙ ap (λ (l : List ℕ). get_or (l ++ q.r) 0 0) w, second ∙ ap (λ (l : List ℕ). get_or (l ++ q.r) 1 0) w))
        q.ends)

    pub ends_there : line_end u end ≡ spelled_length u
    unfolding line_end
    ends_there =
        by_eq (get_or u end 0) 10 (λ e. rw (eq-eqb (get_or u end 0) 10 e) (with_lf e))
        (λ n.
        by_eq (get_or u end 0) 13
        (λ e.
        by_eq (get_or u (end + 1) 0) 10
        (λ f. rw (ne_eqb (get_or u end 0) 10 n, eq-eqb (get_or u end 0) 13 e, eq-eqb (get_or u (end + 1) 0) 10 f) (with_cr_lf e f))
        (λ f. rw (ne_eqb (get_or u end 0) 10 n, eq-eqb (get_or u end 0) 13 e, ne_eqb (get_or u (end + 1) 0) 10 f) (without n (λ p. f p.1))))
        (λ e. rw (ne_eqb (get_or u end 0) 10 n, ne_eqb (get_or u end 0) 13 e) (without n (λ p. e p.0))))
