-- `checker::advance` meets its contract. Assumes nothing.
use mathlib.Core.Path.{◌∙◌, sym}
use mathlib.Core.Logic.{inl, inr}
use native.Mathlib.Omega.{arith}
use Rattle.std.proofs.Common.{rules}
use Rattle.text.proofs.WalkEvents.{formed_here, item_tells}
use Rattle.checker.proofs.Advancing.{attach_advanced, request_fallen, request_further}
use Rattle.checker.proofs.advance.Goals as goal

pub event_at-requires : goal.event_at-requires
event_at-requires c = let p = c.requires in (p.4, formed_here _ _ p.3 p.4)

pub overflow_sub-next : goal.overflow_sub-next
overflow_sub-next c =
    let x = item_tells _ _ c.requires.3 _ (sym c.event_at.ensures ∙ c.in-Request.is) in
    omega (arith, x.ends)

pub slice_bounds-request-count : goal.slice_bounds-request-count
slice_bounds-request-count c =
    let x = item_tells _ _ c.requires.3 _ (sym c.event_at.ensures ∙ c.in-Request.is) in
    omega (arith, x.ends)

pub slice_bounds-request-start : goal.slice_bounds-request-start
slice_bounds-request-start c =
    let x = item_tells _ _ c.requires.3 _ (sym c.event_at.ensures ∙ c.in-Request.is) in
    omega (arith, x.ends, x.onward.within)

pub slice_bounds-request-end : goal.slice_bounds-request-end
slice_bounds-request-end c =
    let x = item_tells _ _ c.requires.3 _ (sym c.event_at.ensures ∙ c.in-Request.is) in
    omega (arith, x.onward.within)

pub request-requires : goal.request-requires
request-requires c =
    let p = c.requires in
    let x = item_tells _ _ p.3 _ (sym c.event_at.ensures ∙ c.in-Request.is) in
    (p.0, p.1, p.2, x.long, x.digits)

pub unreachable-requires : goal.unreachable-requires
unreachable-requires c =
    let p = c.requires in
    elim c.in-End.is [
      | inl e ↦ let past = item_tells _ _ p.3 _ (sym c.event_at.ensures ∙ e) in omega (arith, past, p.4)
      | inr e ↦ item_tells _ _ p.3 _ (sym c.event_at.ensures ∙ e)
    ]

pub returns-in-Attach : goal.returns-in-Attach
returns-in-Attach c =
    let p = c.requires in
    attach_advanced _ _ _ _ _ p.0 p.2 _ _ (item_tells _ _ p.3 _ (sym c.event_at.ensures ∙ c.in-Attach.is)) c.attach.ensures

pub returns-in_err-device-in-Request : goal.returns-in_err-device-in-Request
returns-in_err-device-in-Request c =
    request_fallen _ _ _ _ _ _ _ _ (item_tells _ _ c.requires.3 _ (sym c.event_at.ensures ∙ c.in-Request.is)) _ _ c.request.ensures _ c.in_err-device-in-Request.was (search rules)

pub returns-in_ok-device-in-Request : goal.returns-in_ok-device-in-Request
returns-in_ok-device-in-Request c =
    let p = c.requires in
    request_further _ _ _ _ _ _ _ _ (item_tells _ _ p.3 _ (sym c.event_at.ensures ∙ c.in-Request.is)) _ _ c.request.ensures p.0 p.2 _ c.in_ok-device-in-Request.was
