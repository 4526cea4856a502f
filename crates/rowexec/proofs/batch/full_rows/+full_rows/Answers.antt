use Rattle.std.proofs.Common.{◌≡◌, ◌∙◌, ◌∷◌, ◌<◌, ℕ, ap, sym, subst, rules}
use Rattle.std.specs.Prelude.{is_some}
use Rattle.coltypes.specs.Valid.{Covers, valid_at, validity_and}
use Rattle.coltypes.specs.declared.validity.Validity.{Validity}
use Rattle.rowexec.specs.Rows.{full_cells}
use Rattle.rowexec.proofs.Masking.{covers_and, full_both, rows_of_others, valid_and}
use Rattle.rowloops.proofs.Results.{ok_then}
use Rattle.rowexec.proofs.batch.full_rows.+full_rows.Goals as goal

pub full_rows-requires : goal.full_rows-requires
full_rows-requires t c =
    let whole : c.args.columns.now ≡ c.in-Some.first.now ∷ c.in-Some.others.now = search rules in
    (search rules, (rows_of_others c.args.row_count c.args.columns.now c.in-Some.first.now c.in-Some.others.now whole c.requires).1)

pub returns-clause-tells : goal.returns-clause-tells
returns-clause-tells t c =
    let n = c.args.row_count in
    let columns = c.args.columns.now in
    let first = c.in-Some.first.now in
    let others = c.in-Some.others.now in
    let whole : columns ≡ first ∷ others = search rules in
    let long = rows_of_others n columns first others whole c.requires in
    let own = c.validity-own.result in
    let rest = c.in_ok-validity.validity in
    let covers : Covers own n = subst (λ m. Covers own m) long.0 c.validity-own.ensures.covers in
    ok_then (λ w. w ≡ validity_and own rest) (λ w. (i : ℕ) → i < n → valid_at w i ≡ is_some (full_cells columns i)) c.and.result
    (λ w e i h. ap (λ x. valid_at x i) e ∙ valid_and own rest i n covers c.in_ok-validity.ensures.covers h ∙ full_both columns first others i (valid_at own i) (valid_at rest i) whole (c.validity-own.ensures.tells i (subst (λ m. i < m) (sym long.0) h)) (c.in_ok-validity.ensures.tells i h))
    c.and.ensures.both

pub returns-clause-covers : goal.returns-clause-covers
returns-clause-covers t c =
    let n = c.args.row_count in
    let columns = c.args.columns.now in
    let first = c.in-Some.first.now in
    let others = c.in-Some.others.now in
    let whole : columns ≡ first ∷ others = search rules in
    let long = rows_of_others n columns first others whole c.requires in
    let own = c.validity-own.result in
    let rest = c.in_ok-validity.validity in
    let covers : Covers own n = subst (λ m. Covers own m) long.0 c.validity-own.ensures.covers in
    let P : Validity → Type 0 = λ w. Covers w n in
    ok_then (λ w. w ≡ validity_and own rest) P c.and.result (λ w e. subst P (sym e) (covers_and own rest n covers c.in_ok-validity.ensures.covers)) c.and.ensures.both
