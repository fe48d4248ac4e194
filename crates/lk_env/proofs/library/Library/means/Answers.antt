use Rattle.std.proofs.Common.{◌≡◌, ◌≢◌, ℕ, ◌<◌, ◌≤◌, length, refl, arith}
use Rattle.lk_tree.specs.Tree.{Name}
use Rattle.lk_store.specs.Contents.{Contents, name_at}
use Rattle.lk_store.specs.Store.{contents_of}
use Rattle.lk_env.specs.Units.{library_of, AreUnitsIn}
use Rattle.lk_env.proofs.Members.{beyond_names, absent_position}
use Rattle.lk_env.proofs.Partial.{found_nowhere}
use Rattle.lk_env.proofs.library.Library.means.Goals as goal

pub returns-clause-answer : goal.returns-clause-answer
returns-clause-answer g c =
    let at : Contents = contents_of c.args.self.now.tables in
    let x : Name = name_at (g.T.Terms.contents c.args.terms.now) c.args.name in
    let units_in : AreUnitsIn at c.args.self.now.units = rw (← c.self.view_is) c.self.invariant.0 in
    let count : c.count_names.result ≡ length at.names = rw (← c.self.view_is) c.count_names.ensures.count in
    let beyond : length at.names ≤ c.args.name = rw (← count) (omega arith) in
    let absent : (n : ℕ) → n < length at.names → name_at at n ≢ x =
    beyond_names at (g.T.Terms.contents c.args.terms.now) c.requires.over c.count_names-names.ensures.apart c.args.name beyond c.requires.name_in in
    let found = found_nowhere (library_of c.args.self.now) c.args.site.now x (absent_position at x absent 0 c.args.self.now.units units_in) in
    record { means = rw found refl; rule = rw found refl; unknown = λ is. rw found refl }
