use Rattle.std.proofs.Common.{rules, ◌≡◌, ◌++◌, ◌∷◌, [], suc, ap, sym, ◌∙◌}
use Rattle.lk_store.specs.Contents.{tree_at}
use Rattle.lk_type.specs.Openings.{IsBinder}
use Rattle.lk_type.specs.Marks.{body_of, body_at}
use Rattle.lk_type.proofs.Marks.{body_is, chain_on, domain_subterm, one_more, no_mark_more, passed_on, passed_found}
use Rattle.lk_type.proofs.marking.begin.Goals as goal

pub binders-preserved : goal.binders-preserved
binders-preserved g c =
    let inv = c.binders.invariant in
    let now = g.L.Terms.contents c.args.looks.now in
    let b = c.args.binders in
    let subterms : IsBinder now b c.binders.inside (c.in-Some.domain, c.in-Some.body) = search rules in
    let count : c.in_ok-count.count ≡ suc c.binders.count = search rules in
    let pushed : c.push.new.self.items ≡ c.binders.subterms.items ++ record { e = c.in-Some.domain; depth = c.binders.count; count = c.binders.count } ∷ [] = search rules in
    record {
      inside_is = sym (ap (λ n. body_at b n (tree_at now c.args.e)) count
          ∙ (ap (body_of b) (sym inv.inside_is)
          ∙ body_is b (tree_at now c.binders.inside) (tree_at now c.in-Some.domain) (tree_at now c.in-Some.body) subterms.is));
      inside = rw count (chain_on inv.inside_is inv.inside subterms);
      subterms = one_more c.binders.subterms.items c.push.new.self.items _ inv.subterms (domain_subterm inv.inside subterms) pushed;
      marks = no_mark_more b (tree_at now c.args.e) c.binders.marks.items _ inv.marks (search rules);
      many = search rules;
      passed = rw count (passed_on c.binders.subterms.items c.push.new.self.items inv.inside_is subterms pushed inv.passed);
    }

pub returns-clause-found : goal.returns-clause-found
returns-clause-found g c =
    let inv = c.binders.invariant in
    passed_found c.binders.marks.items inv.many (search rules) inv.passed
