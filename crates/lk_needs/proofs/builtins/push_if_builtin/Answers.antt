use Rattle.std.proofs.Common.{◌≡◌, true, false, refl}
use Rattle.lk_store.specs.Store.{contents_of}
use Rattle.lk_needs.proofs.Spelled.{not_builtin, one_builtin}
use Rattle.lk_needs.proofs.builtins.push_if_builtin.Goals as goal

pub returns-in_ok-push : goal.returns-in_ok-push
returns-in_ok-push c = one_builtin (contents_of c.args.base.now) c.args.name c.args.things.now.items c.requires.before c.push.new.self.items c.requires.name_in (c.if-is_builtin.ensures.0 refl) c.in_ok-push.ensures.items

pub returns-else-is_builtin : goal.returns-else-is_builtin
returns-else-is_builtin c = not_builtin (contents_of c.args.base.now) c.args.name c.args.things.now.items c.requires.before (λ h. let t : false ≡ true = c.if-is_builtin.ensures.1 h in cc)
