use Rattle.std.proofs.Common.{◌≡◌, ◌∙◌, true, false, refl, sym}
use Rattle.lk_needs.proofs.Digits.{not_numbered, other_front, short_front, front_numbered}
use Rattle.lk_needs.proofs.endings.is_numbered.Goals as goal

pub returns-then-word-lt4 : goal.returns-then-word-lt4
returns-then-word-lt4 c = not_numbered c.args.word.now (other_front c.args.word.now (short_front c.args.word.now c.if-word-lt4.true))

pub returns-then-is_front : goal.returns-then-is_front
returns-then-is_front c =
    let whole = rw c.split_at.ensures.back at c.is_positive.ensures in
    front_numbered c.args.word.now c.is_positive.result (sym c.split_at.ensures.front ∙ c.if-is_front.ensures.0 refl) whole

pub returns-else-is_front : goal.returns-else-is_front
returns-else-is_front c =
    not_numbered c.args.word.now (other_front c.args.word.now (λ e. let t : false ≡ true = c.if-is_front.ensures.1 (c.split_at.ensures.front ∙ e) in cc))
