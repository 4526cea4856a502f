use Rattle.std.proofs.Common.{arith, ◌≡◌, ◌∙◌, sym}
use Rattle.std.specs.Prelude.{decimal}
use Rattle.rowplan.specs.Constructors.{true_is_false}
use Rattle.std.proofs.lemmas.Slice.Eq.{bytes_eq-Decides}
use Rattle.rowrun.proofs.Asked.{Counts, count_parsed, not_parsed, other_parsed}
use Rattle.rowrun.proofs.words.count_in.Goals.{else-count-le-MOST_ROWS-via-then-count-le-MOST_ROWS+else-eq, else-count-le-MOST_ROWS-via-else-count-le-MOST_ROWS}
use Rattle.rowrun.proofs.words.count_in.Goals as goal

pub returns-in_default : goal.returns-in_default
returns-in_default c = not_parsed c.args.word.now c.parse.result c.in_default.field-0 c.parse.ensures.value.0 c.in_default.is

pub returns-then-eq : goal.returns-then-eq
returns-then-eq c =
    let spelled : decimal c.in-Ok.count ≡ c.args.word.now =
    sym c.format.ensures.text ∙ (bytes_eq-Decides c.format.result.now c.args.word.now).0 (sym c.eq.ensures ∙ c.if-eq.true) in
    count_parsed c.args.word.now c.in-Ok.count (omega (arith, c.if-count-le-MOST_ROWS.true)) spelled

pub returns-else-count-le-MOST_ROWS : goal.returns-else-count-le-MOST_ROWS
returns-else-count-le-MOST_ROWS c =
    other_parsed c.args.word.now c.parse.result c.in-Ok.count c.parse.ensures.value.0 c.in-Ok.is
    (elim c.else-count-le-MOST_ROWS.branch [
      | else-count-le-MOST_ROWS-via-then-count-le-MOST_ROWS+else-eq w ↦ (λ (counts : Counts c.args.word.now c.in-Ok.count).
          let same = (bytes_eq-Decides w.format.result.now c.args.word.now).1 (w.format.ensures.text ∙ counts.spelled) in
          let differs = sym w.eq.ensures ∙ w.if-eq.false in
          true_is_false (sym same ∙ differs))
      | else-count-le-MOST_ROWS-via-else-count-le-MOST_ROWS w ↦ (λ (counts : Counts c.args.word.now c.in-Ok.count). omega (arith, w.if-count-le-MOST_ROWS.false, counts.in_range))
    ])
