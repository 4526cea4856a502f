use Rattle.std.proofs.Common.{◌≡◌, ◌∙◌, ap, length}
use Rattle.bitlane.specs.Bits.{Collects}
use Rattle.bitlane.proofs.Calls.{extended-collects}
use Rattle.bitlane.proofs.collect.collect_indices.Goals as goal

pub extend-requires : goal.extend-requires
extend-requires g c it e =
    let source = ap (λ m. m.iter) e ∙ c.map.ensures.source in
    let callee = ap (λ m. m.f) e ∙ c.map.ensures.closure in
    ((tt, rw source (rw callee c.requires)), tt, λ xs t y. tt)

collected : (g : _) (c : goal.In_ok-extend g) → (length c.extend.new.self.items ≡ c.args.len) × ((last : _) × Collects (goal.F-step g) c.args.f 0 c.extend.new.self.items last)
collected g c =
    let ran = c.in_ok-extend.ensures.ran in
    extended-collects _ ran.0 _ _ (ap (λ m. m.iter) ran.2 ∙ c.map.ensures.source) (ap (λ m. m.f) ran.2 ∙ c.map.ensures.closure) _ ran.1 _ c.in_ok-answers.ensures.items ran.3.0 ran.4

pub returns-clause-len : goal.returns-clause-len
returns-clause-len g c = (collected g c).0

pub returns-clause-calls : goal.returns-clause-calls
returns-clause-calls g c = (collected g c).1
