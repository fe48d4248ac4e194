use Rattle.std.proofs.Common.{rules, refl}
use Rattle.lk_tree.specs.Tree.{text, number}
use Rattle.lk_store.specs.Contents.{name_at, text_at}
use Rattle.lk_text.specs.declared.names.Component.TheVariants.{Text, Number}
use Rattle.lk_text.proofs.Components.{more_behind, all_behind}
use Rattle.lk_text.proofs.names.find_components.Goals as goal

pub returns-in-Anonymous-clause-name : goal.returns-in-Anonymous-clause-name
returns-in-Anonymous-clause-name g c =
    let s = g.T.Terms.contents c.args.store.now in
    all_behind s (name_at s c.args.name) (name_at s c.up.at) c.up.parts.items c.reverse.new.self.items c.up.invariant.name c.in-Anonymous.ensures.name c.reverse.ensures.items

pub up-preserved-in-Text : goal.up-preserved-in-Text
up-preserved-in-Text g c =
    let s = g.T.Terms.contents c.args.store.now in
    record {
      at_in = search rules;
      known = search rules;
      name = more_behind s (name_at s c.args.name) (name_at s c.up.at) (name_at s c.in-Text.parent) (text (text_at s c.in-Text.text)) c.up.parts.items c.push.new.self.items (Text c.in-Text.text)
          c.up.invariant.name c.in-Text.ensures.name c.in_ok-push-in-Text.ensures.items refl;
    }

pub up-preserved : goal.up-preserved
up-preserved g c =
    let s = g.T.Terms.contents c.args.store.now in
    record {
      at_in = search rules;
      known = search rules;
      name = more_behind s (name_at s c.args.name) (name_at s c.up.at) (name_at s c.in-Number.parent) (number c.in-Number.number) c.up.parts.items c.push-in-Number.new.self.items (Number c.in-Number.number)
          c.up.invariant.name c.in-Number.ensures.name c.in_ok-push-in-Number.ensures.items refl;
    }
