use mathlib.Core.Path.{◌∙◌, refl}
use Rattle.refusals.specs.declared.Refusal.TheVariants.{MalformedFile}
use Rattle.fonts.proofs.Laws.{good_is, malformed_is}
use Rattle.pictures.proofs.Laws.{refused_as, bitmap_23, show_19, show_22, show_found}
use borrow.Author.Rules.{rules}
use Rattle.pictures.proofs.bitmap_file.Goals as goal

pub returns-then-number-gt-MAX_NUMBER-clause-refused : goal.returns-then-number-gt-MAX_NUMBER-clause-refused
returns-then-number-gt-MAX_NUMBER-clause-refused c = λ w x y same. show_19 w _ _ x y same (search rules)

pub returns-in_default-clause-refused : goal.returns-in_default-clause-refused
returns-in_default-clause-refused c = λ w x y same. show_22 w _ _ x y same _ c.if-number-gt-MAX_NUMBER.false c.find.ensures (search rules)

pub returns-in_err-check_bitmap-clause-refused : goal.returns-in_err-check_bitmap-clause-refused
returns-in_err-check_bitmap-clause-refused c =
    refused_as _ MalformedFile MalformedFile _ c.from_residual.ensures.1 refl
    (λ w x y same. show_found w _ _ x y same _ c.if-number-gt-MAX_NUMBER.false c.find.ensures _ _ c.in-Some.is c.part-file.ensures
    ∙ bitmap_23 w _ x y (malformed_is _ _ _ c.check_bitmap.ensures c.in_err-check_bitmap.was))

pub returns-clause-found : goal.returns-clause-found
returns-clause-found c = (
  good_is _ _ c.check_bitmap.ensures c.in_ok-check_bitmap.was,
  λ w x y same. show_found w _ _ x y same _ c.if-number-gt-MAX_NUMBER.false c.find.ensures _ _ c.in-Some.is c.part-file.ensures,
)
