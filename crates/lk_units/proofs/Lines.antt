-- What whole lines add.
use Rattle.std.proofs.Common.{◌≡◌, ℕ, List, refl, Ok}
use Rattle.std.specs.Prelude.{Result}
use Rattle.lk_tree.specs.Tree.{Name, Level, Tree, const}
use Rattle.lk_rulebook.specs.Units.{Body}
use Rattle.lk_store.specs.Contents.{Contents}
use Rattle.lk_members.specs.Lines.{alone}
use Rattle.lk_members.specs.Plain.{PlainMember}
use Rattle.lk_lines.specs.declared.words.Word.{Word}
use Rattle.lk_lines.specs.Reading.{◌>>=◌}
use Rattle.lk_units.specs.declared.assembler.Assembler.{Assembler}
use Rattle.lk_units.specs.declared.assembler.TakeError.{TakeError}
use Rattle.lk_units.specs.declared.assembler.TakeError.TheVariants as errors
use Rattle.lk_units.specs.State.{State, known, all_known, constant_tree, declaration_of, counted, with_line, declared}
use Rattle.lk_units.specs.Held.{Fails, Follows}
use Rattle.lk_units.proofs.Holding.{found, failing, is_below}

-- what follows a fault is that fault
pub fails_then : {X Y : Type 0} (e : TakeError) (said : Result X Word) (next : X → Result Y Word) → Fails e said → Fails e (said >>= next)
fails_then errors.NoMemory said next h = tt
fails_then (errors.Fault w) said next h = rw h refl

-- numbers that were looked up, and what follows them
pub ruleset looked_up = (found, failing, is_below, fails_then)

-- a constant, of which the name and the levels stand for something
pub constant_made : (s : State) (n : ℕ) (ls : List ℕ) (name : Name) (levels : List Level) → known s.names n ≡ Ok name → all_known s.levels ls ≡ Ok levels → constant_tree s n ls ≡ Ok (const name levels)
constant_made s n ls name levels e f = rw (e, f) refl

pub constant_fails : (e : TakeError) (s : State) (n : ℕ) (ls : List ℕ) (name : Name) → known s.names n ≡ Ok name → Fails e (all_known s.levels ls) → Fails e (constant_tree s n ls)
constant_fails errors.NoMemory s n ls name f h = tt
constant_fails (errors.Fault w) s n ls name f h = rw (f, h) refl

-- a declaration, of which all parts stand for something
pub declaration_made : (s : State) (n a : ℕ) (said : Result Body Word) (ps : List ℕ) (name : Name) (type : Tree) (body : Body) (levels : List Name) → known s.names n ≡ Ok name → known s.trees a ≡ Ok type → said ≡ Ok body
    → all_known s.names ps ≡ Ok levels → declaration_of s n a said ps ≡ Ok (alone (record { name = name; levels = levels; type = type; body = body }))
declaration_made s n a said ps name type body levels e f g h = rw (e, f, g, h) refl

pub declaration_fails : (e : TakeError) (s : State) (n a : ℕ) (said : Result Body Word) (ps : List ℕ) (name : Name) (type : Tree) (body : Body) → known s.names n ≡ Ok name → known s.trees a ≡ Ok type → said ≡ Ok body
    → Fails e (all_known s.names ps) → Fails e (declaration_of s n a said ps)
declaration_fails errors.NoMemory s n a said ps name type body f g h i = tt
declaration_fails (errors.Fault w) s n a said ps name type body f g h i = rw (f, g, h, i) refl

-- what a line adds is counted
pub counted_follows : (r : Result (Unit {0}) TakeError) (a : Assembler) (c : Contents) (said : Result State Word) (s : State) → said ≡ Ok s → Follows a c r (counted s) → Follows a c r (said >>= λ t. counted t)
counted_follows r a c said s e h = rw e h

-- a line that declares something is counted, and then put behind those before it
pub declared_follows : (r : Result (Unit {0}) TakeError) (a : Assembler) (c : Contents) (l : ℕ) (said : Result PlainMember Word) (x : PlainMember) (s t : State) → said ≡ Ok x → counted s ≡ Ok t
    → Follows a c r (with_line l t x) → Follows a c r (declared l s said)
declared_follows r a c l said x s t e n h = rw (e, n) h

pub declared_fails : (e : TakeError) (l : ℕ) (said : Result PlainMember Word) (x : PlainMember) (s : State) → said ≡ Ok x → Fails e (counted s) → Fails e (declared l s said)
declared_fails e l said x s i h = rw i (fails_then e (counted s) (λ t. with_line l t x) h)
