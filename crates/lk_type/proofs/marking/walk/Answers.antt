use Rattle.std.proofs.Common.{rules, ◌≡◌, ◌++◌, ◌∷◌, []}
use Rattle.lk_store.specs.Contents.{tree_at}
use Rattle.lk_type.proofs.Marks.{last_subterm, front_subterms, found_on, found_all}
use Rattle.lk_type.proofs.marking.walk.Goals as goal

pub returns-in-None-clause-all : goal.returns-in-None-clause-all
returns-in-None-clause-all g c sure =
    let none : c.subterms.subterms.items ≡ [] = search rules in
    let now = g.L.Terms.contents c.args.looks.now in
    found_all now c.args.binders (tree_at now c.args.e) c.subterms.marks.items c.subterms.subterms.items none c.subterms.invariant.found

pub mark-requires-clause-subterm : goal.mark-requires-clause-subterm
mark-requires-clause-subterm g c =
    let popped : c.subterms.subterms.items ≡ c.pop.new.self.items ++ c.in-Some.subterm ∷ [] = search rules in
    last_subterm c.subterms.subterms.items c.pop.new.self.items c.in-Some.subterm popped c.subterms.invariant.subterms

pub add_subterms-requires-clause-subterm : goal.add_subterms-requires-clause-subterm
add_subterms-requires-clause-subterm g c =
    let popped : c.subterms.subterms.items ≡ c.pop.new.self.items ++ c.in-Some.subterm ∷ [] = search rules in
    last_subterm c.subterms.subterms.items c.pop.new.self.items c.in-Some.subterm popped c.subterms.invariant.subterms

pub add_subterms-requires-clause-subterms : goal.add_subterms-requires-clause-subterms
add_subterms-requires-clause-subterms g c =
    let popped : c.subterms.subterms.items ≡ c.pop.new.self.items ++ c.in-Some.subterm ∷ [] = search rules in
    front_subterms c.subterms.subterms.items c.pop.new.self.items c.in-Some.subterm popped c.subterms.invariant.subterms

pub subterms-preserved : goal.subterms-preserved
subterms-preserved g c =
    let popped : c.subterms.subterms.items ≡ c.pop.new.self.items ++ c.in-Some.subterm ∷ [] = search rules in
    record {
      subterms = c.in_ok-add_subterms-in-Some.ensures.subterms;
      marks = c.mark.ensures.marks;
      found = found_on c.subterms.marks.items c.mark.new.marks.items c.subterms.subterms.items c.pop.new.self.items c.add_subterms.new.subterms.items
          popped c.subterms.invariant.found c.mark.ensures c.in_ok-add_subterms-in-Some.ensures.left;
    }
