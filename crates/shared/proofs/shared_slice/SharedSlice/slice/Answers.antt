use Rattle.std.proofs.Common.{◌∙◌, ◌≤◌, ◌-◌, ◌+◌, ap, arith, length, slice_range}
use Rattle.shared.proofs.Parts.{length-slice_range, slice_range-slice_range}
use Rattle.shared.proofs.shared_slice.SharedSlice.slice.Goals as goal

pub overflow_add-result : goal.overflow_add-result
overflow_add-result g c =
    let e = length-slice_range c.self.inside.items c.self.inside.start c.self.inside.end c.self.invariant.0 c.self.invariant.1 in
    let f = ap length c.self.view_is in
    omega (arith, e, f, c.self.invariant.0, c.requires.within)

pub overflow_add-result-2 : goal.overflow_add-result-2
overflow_add-result-2 g c =
    let e = length-slice_range c.self.inside.items c.self.inside.start c.self.inside.end c.self.invariant.0 c.self.invariant.1 in
    let f = ap length c.self.view_is in
    omega (arith, e, f)

pub returns : goal.returns
returns g c =
    let e = length-slice_range c.self.inside.items c.self.inside.start c.self.inside.end c.self.invariant.0 c.self.invariant.1 in
    let f = ap length c.self.view_is in
    let h : c.args.end ≤ c.self.inside.end - c.self.inside.start = omega (arith, e, f) in
    ap (λ xs. slice_range xs (c.self.inside.start + c.args.start) (c.self.inside.start + c.args.end)) c.share.ensures
    ∙ slice_range-slice_range _ _ _ _ _ c.requires.order h
    ∙ ap (λ xs. slice_range xs c.args.start c.args.end) c.self.view_is
