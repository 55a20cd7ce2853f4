-- `job::pack_request` meets its contract. Assumes nothing.
use native.Mathlib.Omega.{arith}
use Rattle.job.proofs.Packing.{asks_room, count_is, request_packed}
use Rattle.line.proofs.Formed.{Asks, asks, asks_digits, asks_body}
use Rattle.request.specs.Setup.{data_length}
use lib.ListN.{length, length-set}
use Prim.Native.Nat.{ℕ, ◌+◌, ◌*◌, ◌≤◌}
use mathlib.Core.Path.{◌≡◌, ap, ◌∙◌}
use Rattle.job.proofs.pack_request.Goals as goal

pub bounds-out-at : goal.bounds-out-at
bounds-out-at c =
    let line : Asks c.args.rest.now = asks _ c.requires.0 c.requires.1 in
    let room : (20 + length line.b * 2 ≤ length c.args.rest.now) × (c.args.at + 9 + length line.b ≤ length c.args.out.now) = asks_room line _ _ c.requires.2 in
    let r = room in omega arith

pub slice_bounds-decode-end : goal.slice_bounds-decode-end
slice_bounds-decode-end c =
    let line : Asks c.args.rest.now = asks _ c.requires.0 c.requires.1 in
    let room : (20 + length line.b * 2 ≤ length c.args.rest.now) × (c.args.at + 9 + length line.b ≤ length c.args.out.now) = asks_room line _ _ c.requires.2 in
    let r = room in omega arith

pub decode-requires : goal.decode-requires
decode-requires c =
    let line : Asks c.args.rest.now = asks _ c.requires.0 c.requires.1 in
    let room : (20 + length line.b * 2 ≤ length c.args.rest.now) × (c.args.at + 9 + length line.b ≤ length c.args.out.now) = asks_room line _ _ c.requires.2 in
    let r = room in
    (omega (arith, length-set {A = ℕ}), asks_digits line)

pub slice_bounds-of-end : goal.slice_bounds-of-end
slice_bounds-of-end c =
    let line : Asks c.args.rest.now = asks _ c.requires.0 c.requires.1 in
    let room : (20 + length line.b * 2 ≤ length c.args.rest.now) × (c.args.at + 9 + length line.b ≤ length c.args.out.now) = asks_room line _ _ c.requires.2 in
    let r = room in
    omega (arith, length-set {A = ℕ})

pub overflow_mul-end : goal.overflow_mul-end
overflow_mul-end c =
    let line : Asks c.args.rest.now = asks _ c.requires.0 c.requires.1 in
    let room : (20 + length line.b * 2 ≤ length c.args.rest.now) × (c.args.at + 9 + length line.b ≤ length c.args.out.now) = asks_room line _ _ c.requires.2 in
    let count : c.data_length-count.result ≡ length line.b = count_is _ c.args.out.now _ _ line room.1 c.decode.ensures _ (c.data_length-count.ensures ∙ ap data_length c.of.ensures) in
    let r = room in let n = count in omega arith

pub overflow_add-end : goal.overflow_add-end
overflow_add-end c =
    let line : Asks c.args.rest.now = asks _ c.requires.0 c.requires.1 in
    let room : (20 + length line.b * 2 ≤ length c.args.rest.now) × (c.args.at + 9 + length line.b ≤ length c.args.out.now) = asks_room line _ _ c.requires.2 in
    let count : c.data_length-count.result ≡ length line.b = count_is _ c.args.out.now _ _ line room.1 c.decode.ensures _ (c.data_length-count.ensures ∙ ap data_length c.of.ensures) in
    let r = room in let n = count in omega arith

pub slice_bounds-decode-end-2 : goal.slice_bounds-decode-end-2
slice_bounds-decode-end-2 c =
    let line : Asks c.args.rest.now = asks _ c.requires.0 c.requires.1 in
    let room : (20 + length line.b * 2 ≤ length c.args.rest.now) × (c.args.at + 9 + length line.b ≤ length c.args.out.now) = asks_room line _ _ c.requires.2 in
    let count : c.data_length-count.result ≡ length line.b = count_is _ c.args.out.now _ _ line room.1 c.decode.ensures _ (c.data_length-count.ensures ∙ ap data_length c.of.ensures) in
    let r = room in let n = count in omega arith

pub decode-requires-2 : goal.decode-requires-2
decode-requires-2 c =
    let line : Asks c.args.rest.now = asks _ c.requires.0 c.requires.1 in
    let room : (20 + length line.b * 2 ≤ length c.args.rest.now) × (c.args.at + 9 + length line.b ≤ length c.args.out.now) = asks_room line _ _ c.requires.2 in
    let count : c.data_length-count.result ≡ length line.b = count_is _ c.args.out.now _ _ line room.1 c.decode.ensures _ (c.data_length-count.ensures ∙ ap data_length c.of.ensures) in
    let r = room in
    let n = count in
    (omega (arith, length-set {A = ℕ}), asks_body line _ (ap (λ n. 19 + n * 2) n))

pub overflow_add-result : goal.overflow_add-result
overflow_add-result c =
    let line : Asks c.args.rest.now = asks _ c.requires.0 c.requires.1 in
    let room : (20 + length line.b * 2 ≤ length c.args.rest.now) × (c.args.at + 9 + length line.b ≤ length c.args.out.now) = asks_room line _ _ c.requires.2 in
    let count : c.data_length-count.result ≡ length line.b = count_is _ c.args.out.now _ _ line room.1 c.decode.ensures _ (c.data_length-count.ensures ∙ ap data_length c.of.ensures) in
    let r = room in let n = count in omega arith

pub returns : goal.returns
returns c =
    let line : Asks c.args.rest.now = asks _ c.requires.0 c.requires.1 in
    let room : (20 + length line.b * 2 ≤ length c.args.rest.now) × (c.args.at + 9 + length line.b ≤ length c.args.out.now) = asks_room line _ _ c.requires.2 in
    let count : c.data_length-count.result ≡ length line.b = count_is _ c.args.out.now _ _ line room.1 c.decode.ensures _ (c.data_length-count.ensures ∙ ap data_length c.of.ensures) in
    request_packed _ c.args.out.now _ _ line room.1 c.decode.ensures _ _ (ap (λ n. 19 + n * 2) count) c.decode-2.ensures
