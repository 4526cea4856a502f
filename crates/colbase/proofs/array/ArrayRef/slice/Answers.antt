use Rattle.std.proofs.Common.{◌≡◌, ◌∙◌, ap, slice_range, subst}
use Rattle.colbase.proofs.Cut.{rows_cut, dtype_cut, payload_cut, must_read_cut}
use Rattle.colbase.proofs.Results.{if_ok-map}
use Rattle.colbase.specs.Arrays.{Array, dtype, rows, payload, MustRead}
use Rattle.coltypes.specs.Cell.{Cell}
use Rattle.colbase.specs.Cut.{cut}
use Rattle.colbase.proofs.array.ArrayRef.slice.Goals as goal

pub returns : goal.returns
returns c =
    let a = c.args.self.now in
    let i = c.args.start in
    let j = c.args.end in
    let IsCut : Array → Type 0 = λ b. b ≡ cut a i j in
    record {
      rows = if_ok-map IsCut (λ b. rows b ≡ slice_range (rows a) i j) c.cut.result (λ b e. ap rows e ∙ rows_cut a i j c.requires.order c.requires.within) c.cut.ensures.cut;
      dtype = if_ok-map IsCut (λ b. dtype b ≡ dtype a) c.cut.result (λ b e. ap dtype e ∙ dtype_cut a i j) c.cut.ensures.cut;
      payload = if_ok-map IsCut (λ b. payload b ≡ slice_range (payload a) i j) c.cut.result (λ b e. ap payload e ∙ payload_cut a i j c.requires.order c.requires.within) c.cut.ensures.cut;
      must_read = if_ok-map IsCut (λ b. (x : Cell) → MustRead b x → MustRead a x) c.cut.result
          (λ b e x m. must_read_cut a i j c.requires.order c.requires.within x (let P : Array → Type 0 = λ y. MustRead y x in subst P e m)) c.cut.ensures.cut;
      errors = c.cut.ensures.errors;
    }
