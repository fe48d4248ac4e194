use Rattle.std.proofs.Common.{rules}
use Rattle.lk_spell.proofs.Waiting.{begun, enters_known, entered, entered_less, leaves_opened, leaves_done, left, left_less}
use Rattle.lk_spell.specs.Opened.{part_of}
use Rattle.lk_spell.specs.declared.open.Visit.TheVariants.{Leave}
use Rattle.lk_spell.proofs.Counting.{of_begun, of_entered, of_rest, of_top, counted, wide, wide_weaker}
use Rattle.lk_spell.specs.Wide.{IsOneMore, IsWide}
use Rattle.std.proofs.lemmas.Result.{err_from_is_err_and}
use Rattle.lk_store.specs.Layers.{layers_contents}
use Rattle.lk_spell.proofs.walk.walk.Goals as goal

pub walk-init : goal.walk-init
walk-init c = record {
  few = c.requires.few;
  under_way = begun (layers_contents c.args.terms.now) c.args.speller.now.numbers c.args.root c.push.new.stack.items (search rules) c.requires.known;
  of = of_begun (layers_contents c.args.terms.now) c.args.root c.push.new.stack.items (search rules);
  counting = λ b h. h;
  spells = λ b h. h;
}

pub enter-requires : goal.enter-requires
enter-requires c =
    enters_known (layers_contents c.args.terms.now) c.walk.speller.numbers c.args.root c.walk.stack.items c.pop.new.self.items c.in-Enter.part (search rules)
    c.walk.invariant.under_way

pub walk-smaller-in-Continue-branch-2 : goal.walk-smaller-in-Continue-branch-2
walk-smaller-in-Continue-branch-2 c =
    entered_less (layers_contents c.args.terms.now) c.walk.speller.numbers c.args.root c.walk.stack.items c.pop.new.self.items c.in-Enter.part (search rules)
    c.enter.new.stack.items (search rules)

pub walk-preserved-in-Continue-branch-2 : goal.walk-preserved-in-Continue-branch-2
walk-preserved-in-Continue-branch-2 c = record {
  few = c.walk.invariant.few;
  under_way = entered (layers_contents c.args.terms.now) c.walk.speller.numbers c.args.root c.walk.stack.items c.pop.new.self.items c.in-Enter.part (search rules)
      c.enter.new.stack.items c.walk.invariant.under_way (search rules);
  of = of_entered (layers_contents c.args.terms.now) c.args.root c.walk.speller.numbers c.walk.stack.items c.pop.new.self.items c.enter.new.stack.items c.in-Enter.part
      (search rules) c.walk.invariant.of (search rules);
  counting = c.walk.invariant.counting;
  spells = c.walk.invariant.spells;
}

pub leave-requires-clause-opened : goal.leave-requires-clause-opened
leave-requires-clause-opened c =
    leaves_opened (layers_contents c.args.terms.now) c.walk.speller.numbers c.args.root c.walk.stack.items c.pop.new.self.items c.in-Leave.opened (search rules)
    c.walk.invariant.under_way

pub leave-requires-clause-done : goal.leave-requires-clause-done
leave-requires-clause-done c =
    leaves_done (layers_contents c.args.terms.now) c.walk.speller.numbers c.args.root c.walk.stack.items c.pop.new.self.items c.in-Leave.opened (search rules)
    c.walk.invariant.under_way

pub walk-smaller : goal.walk-smaller
walk-smaller c =
    left_less (layers_contents c.args.terms.now) c.walk.speller.numbers c.args.root c.walk.stack.items c.pop.new.self.items c.in-Leave.opened (search rules)

pub walk-preserved : goal.walk-preserved
walk-preserved c = record {
  few = search rules;
  under_way = left (layers_contents c.args.terms.now) c.walk.speller.numbers c.args.root c.walk.stack.items c.pop.new.self.items c.in-Leave.opened (search rules)
      c.walk.invariant.under_way c.leave.new.self.numbers (search rules) (search rules);
  of = of_rest (layers_contents c.args.terms.now) c.args.root c.walk.stack.items c.pop.new.self.items (Leave c.in-Leave.opened) (search rules) c.walk.invariant.of;
  counting = λ b h.
      let c' = layers_contents c.args.terms.now in
      let of = of_top c' c.args.root c.walk.stack.items c.pop.new.self.items (Leave c.in-Leave.opened) (search rules) c.walk.invariant.of in
      let left = c.in_ok-leave-in-Leave.ensures in
      counted b c' c.args.root (part_of c.in-Leave.opened) of c.walk.speller c.leave.new.self (c.walk.invariant.counting b h) left.counted left.stays left.done;
  spells = λ b h. c.in_ok-leave-in-Leave.ensures.spells b (c.walk.invariant.spells b h);
}

pub returns-in_err-leave-in-Leave-clause-wide : goal.returns-in_err-leave-in-Leave-clause-wide
returns-in_err-leave-in-Leave-clause-wide c = λ b h.
    let c' = layers_contents c.args.terms.now in
    let of = of_top c' c.args.root c.walk.stack.items c.pop.new.self.items (Leave c.in-Leave.opened) (search rules) c.walk.invariant.of in
    let p = err_from_is_err_and c.from_residual-in_err-leave-in-Leave.result c.from_residual-in_err-leave-in-Leave.ensures.1 in
    rw (p.1, p.2) (wide_weaker _ (IsOneMore (part_of c.in-Leave.opened) c.walk.speller) (IsWide b c' c.args.root)
    (wide b c' c.args.root (part_of c.in-Leave.opened) of c.walk.speller (c.walk.invariant.counting b h)) c.in_err-leave-in-Leave.ensures.wide)
