use mathlib.Core.Path.{◌∙◌, refl}
use Rattle.text.proofs.Laws.{source_built_in, source_22, source_23, source_stored, refused_by}
use borrow.Author.Rules.{rules}
use Rattle.text.proofs.find_font.Goals as goal

pub returns-then-number-eq-BUILT_IN_FONT : goal.returns-then-number-eq-BUILT_IN_FONT
returns-then-number-eq-BUILT_IN_FONT c = source_built_in _ _ _ (search rules)

pub returns-in_default : goal.returns-in_default
returns-in_default c = source_22 _ _ _ _ c.if-number-eq-BUILT_IN_FONT.false c.find.ensures (search rules)

pub returns-in_err-check_font : goal.returns-in_err-check_font
returns-in_err-check_font c =
    refused_by _ _ _ c.from_residual.ensures.1 refl ∙ source_23 _ _ _ _ c.if-number-eq-BUILT_IN_FONT.false c.find.ensures _ _ _ c.in-Some.is c.part.ensures c.check_font.ensures _ c.in_err-check_font.was

pub returns : goal.returns
returns c = source_stored _ _ _ _ c.if-number-eq-BUILT_IN_FONT.false c.find.ensures _ _ _ c.in-Some.is c.part.ensures c.check_font.ensures c.in_ok-check_font.was
