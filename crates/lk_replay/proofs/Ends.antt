-- The line that ends a section of a declaration.
use Rattle.std.proofs.Common.{◌≡◌, ℕ, Bool, true, ◌&&◌, List, [], Result, Ok, Err, sym, ap, ◌∙◌}
use Rattle.std.specs.Prelude.{IfOk}
use Rattle.lk_rulebook.specs.Place.{Place}
use Rattle.lk_rulebook.specs.Claims.{Claim}
use Rattle.lk_rulebook.specs.Units.{Decl, of_decl, Library, place_of}
use Rattle.lk_rulebook.specs.Scan.{is_none, scan_of}
use Rattle.lk_questions.specs.Tests.{passes}
use Rattle.lk_written.specs.Premises.{Left}
use Rattle.lk_written.specs.Section.{parts_test}
use Rattle.lk_store.specs.declared.memory.NoMemory.{NoMemory}
use Rattle.lk_replay.specs.Bodies.{end_test}

module _ (us : Library) (n : ℕ) (d : Decl) (ps : List Claim) (js : Left) where
  -- where the scan holds, it is as with the parts
  pub parts_decide : (w : Place) (e : Decl) → w ≡ place_of us n [] → e ≡ d
      → is_none (scan_of us n (of_decl d)) ≡ true → (r : Result Bool NoMemory)
      → IfOk r (λ b. b ≡ passes (parts_test w ps js e)) → IfOk r (λ b. b ≡ end_test us n (of_decl d) ps js)
  parts_decide w e here same scanned (Ok b) h =
      h ∙ ap (λ v. passes (parts_test v ps js e)) here
      ∙ ap (λ x. passes (parts_test (place_of us n []) ps js x)) same
      ∙ sym (ap (λ b. b && passes (parts_test (place_of us n []) ps js d)) scanned)
  parts_decide w e here same scanned (Err x) h = tt
