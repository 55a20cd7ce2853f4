-- `record::read` meets its contract. Assumes nothing.
use Rattle.std.proofs.Common.{List, ℕ, ◌≡◌, ◌+◌, ◌-◌, ◌/◌, ◌<◌, ◌≤◌, length, Bool, true, false, Option, Some, IfSome, unwrap_or, sym, refl, ap, ◌∙◌, arith, length-take}
use Rattle.std.specs.Bool.{then_some}
use Rattle.record.proofs.Spelling.{Spells, spells_size}
use Rattle.record.proofs.Reading.{spells_by, count_is, read_none, length_small, field_digits, field_length, record_laid_lem, record_front, length_within, read_told}
use Rattle.record.specs.Record.{length_in, sound}
use Rattle.record.specs.Ways.{spelled_length}
use Rattle.record.proofs.read.Goals as goal

-- the line spells a record, and how many bytes are read
record Line (rest : List ℕ) (n : ℕ) : Type 0 where
  is : n ≡ spelled_length rest
  spells : Spells rest
  count : (n - 2) / 2 ≡ 5 + length_in rest

line : (rest : List ℕ) (o : Option ℕ) (n : ℕ) → o ≡ Some n → unwrap_or o 0 ≡ spelled_length rest → IfSome o (λ m. 0 < m) → Line rest n
line rest o n w e some =
    let is : n ≡ spelled_length rest = ap (λ p. unwrap_or p 0) (sym w) ∙ e in
    let more : 0 < n = rw w at some in
    let q = spells_by rest n is (λ z. omega arith) in
    record { is = is; spells = q; count = count_is q n is }

pub returns-in_err-length-clause-length : goal.returns-in_err-length-clause-length
returns-in_err-length-clause-length c =
    let none : 0 ≡ spelled_length c.args.rest.now = ap (λ p. unwrap_or p 0) (sym c.in_err-length.was) ∙ c.spelled_length.ensures.length in
    rw c.from_residual.ensures (read_none c.args.rest.now c.args.out.now 0 none refl).0

pub returns-in_err-length-clause-laid : goal.returns-in_err-length-clause-laid
returns-in_err-length-clause-laid c =
    let none : 0 ≡ spelled_length c.args.rest.now = ap (λ p. unwrap_or p 0) (sym c.in_err-length.was) ∙ c.spelled_length.ensures.length in
    (read_none c.args.rest.now c.args.out.now 0 none refl).1

pub overflow_sub-count : goal.overflow_sub-count
overflow_sub-count c =
    let n = (line c.args.rest.now _ _ c.in_ok-length.was c.spelled_length.ensures.length c.spelled_length.ensures.some).count in
    omega arith

pub slice_bounds-decode-end : goal.slice_bounds-decode-end
slice_bounds-decode-end c =
    let h = line c.args.rest.now _ _ c.in_ok-length.was c.spelled_length.ensures.length c.spelled_length.ensures.some in
    let n = h.count in
    let z = spells_size h.spells in
    omega arith

pub decode-requires : goal.decode-requires
decode-requires c =
    let h = line c.args.rest.now _ _ c.in_ok-length.was c.spelled_length.ensures.length c.spelled_length.ensures.some in
    let n = h.count in
    let f = field_length h.spells _ n in
    let m = length_small h.spells in
    (omega arith, field_digits h.spells _ n)

pub slice_bounds-sound-end : goal.slice_bounds-sound-end
slice_bounds-sound-end c =
    let h = line c.args.rest.now _ _ c.in_ok-length.was c.spelled_length.ensures.length c.spelled_length.ensures.some in
    let n = h.count in
    let m = length_small h.spells in
    omega arith

pub slice_bounds-sound-end-2 : goal.slice_bounds-sound-end-2
slice_bounds-sound-end-2 c =
    let h = line c.args.rest.now _ _ c.in_ok-length.was c.spelled_length.ensures.length c.spelled_length.ensures.some in
    let n = h.count in
    let m = length_small h.spells in
    simp length-take (omega arith)

pub sound-requires : goal.sound-requires
sound-requires c =
    let h = line c.args.rest.now _ _ c.in_ok-length.was c.spelled_length.ensures.length c.spelled_length.ensures.some in
    let n = h.count in
    let m = length_small h.spells in
    simp length-take (omega arith)

pub returns-clause-length : goal.returns-clause-length
returns-clause-length c =
    let h = line c.args.rest.now _ _ c.in_ok-length.was c.spelled_length.ensures.length c.spelled_length.ensures.some in
    let s = c.sound.ensures ∙ ap sound (record_front h.spells _ h.count _ _ c.decode.ensures) in
    rw c.then_some.ensures (read_told h.spells c.sound.result _ h.is s)

-- what holds of a length holds of the one that is given
given : (b : Bool) (n : ℕ) (P : ℕ → Type 0) → P n → IfSome (then_some b n) P
given true n P h = h
given false n P h = tt

pub returns-clause-some : goal.returns-clause-some
returns-clause-some c =
    let h = line c.args.rest.now _ _ c.in_ok-length.was c.spelled_length.ensures.length c.spelled_length.ensures.some in
    rw c.then_some.ensures (given c.sound.result _ (λ n. (0 < n) × (n ≤ length c.args.rest.now)) (length_within h.spells _ h.is))

pub returns-clause-laid : goal.returns-clause-laid
returns-clause-laid c =
    let h = line c.args.rest.now _ _ c.in_ok-length.was c.spelled_length.ensures.length c.spelled_length.ensures.some in
    record_laid_lem h.spells _ h.count _ _ c.decode.ensures
