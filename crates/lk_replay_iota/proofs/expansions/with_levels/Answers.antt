use Rattle.std.proofs.Common.{rules, ◌≡◌, true, false, ◌&&◌, nat_eq, length, Some, None, sym, ap, subst, ◌∙◌}
use Rattle.lk_tree.specs.Spine.{args}
use Rattle.lk_questions.specs.Tests.{◌>>=◌, test}
use Rattle.lk_store.specs.Contents.{name_at, list_at, tree_at}
use Rattle.lk_env.specs.Entries.{library_entry}
use Rattle.lk_mentions.specs.Structures.{IsStructureIf, structure_in}
use Rattle.lk_premises.specs.Claims.{claims_at}
use Rattle.lk_premises.specs.Testing.{Tests}
use Rattle.lk_replay_iota.specs.Expansions.{expansion_read, levels_read}
use Rattle.lk_replay_iota.proofs.ExpansionForms.{levels_found, levels_lost}
use Rattle.lk_replay_iota.proofs.expansions.with_levels.Goals as goal

pub returns-in-Some : goal.returns-in-Some
returns-in-Some g c k h =
    let d = g.L.Terms.contents c.args.looks.now in
    let t = tree_at d in
    let ps = claims_at d c.args.claims.now in
    let js = c.args.left.now in
    let name = name_at d c.args.name in
    let ls = list_at d c.args.levels in
    let entry = ap (λ l. library_entry l c.args.found.entry) c.scope.ensures.is ∙ h.entry_is in
    let found = subst (λ z. IsStructureIf d (Some c.in-Some.field-0) (structure_in z)) h.kind_is
    (subst (λ o. IsStructureIf d o (structure_in k.entry.kind)) c.in-Some.is (c.in_ok-structure_of.ensures.is k.entry entry)) in
    let counted : nat_eq (length (args (t c.args.ty))) k.ctor.parameters ≡ true =
    ap (nat_eq (length (args (t c.args.ty)))) (sym (c.from.ensures ∙ h.parameters_are)) ∙ sym c.has_arguments.ensures ∙ c.if-not-has_arguments.false in
    let is : expansion_read ps js name (name_at d c.args.found.inductive) c.args.found.fields ls (t c.args.m) (t c.args.ty) (t c.args.n) ≡ levels_read ps js name (t c.args.m) (t c.args.ty) (t c.args.n) k ls =
    ap (λ z. expansion_read ps js name z c.args.found.fields ls (t c.args.m) (t c.args.ty) (t c.args.n)) h.inductive_is
    ∙ ap (λ z. expansion_read ps js name k.ind.name z ls (t c.args.m) (t c.args.ty) (t c.args.n)) h.fields_are
    ∙ sym (levels_found d k c.in-Some.field-0 found ps js name (t c.args.m) (t c.args.ty) (t c.args.n) ls counted) in
    subst (λ z. Tests g.L.Terms.contents g.L.Terms.rest c.args.looks.now c.is_expansion.new.looks c.is_expansion.result z) is c.is_expansion.ensures

pub returns-in-None : goal.returns-in-None
returns-in-None g c k h =
    let d = g.L.Terms.contents c.args.looks.now in
    let t = tree_at d in
    let entry = ap (λ l. library_entry l c.args.found.entry) c.scope.ensures.is ∙ h.entry_is in
    let lost = subst (λ z. IsStructureIf d None (structure_in z)) h.kind_is
    (subst (λ o. IsStructureIf d o (structure_in k.entry.kind)) c.in-None.is (c.in_ok-structure_of.ensures.is k.entry entry)) in
    rw (levels_lost d k lost (claims_at d c.args.claims.now) c.args.left.now (name_at d c.args.name) (t c.args.m) (t c.args.ty) (t c.args.n) (list_at d c.args.levels))
    (record { keeps = search rules; stays = search rules; ok = search rules })
