-- What a result is that `map_err` gave another refusal, and that `?` passes on.
use mathlib.Core.Path.{◌≡◌, refl, sym, ap, ◌∙◌}
use Rattle.std.proofs.Common.{true, false, Result, Ok, Err, is_ok, IsErrAnd}
use Rattle.std.proofs.lemmas.Result.{err_from_is_err_and}

module _ {A E D : Type 0} (r : Result A E) {s : Result A D} (same : is_ok s ≡ is_ok r) where
  pub ok_of : {a : A} → s ≡ Ok a → (x : A) × (r ≡ Ok x)
  ok_of e = go r same
    where
      go : (r : Result A E) → is_ok s ≡ is_ok r → (x : A) × (r ≡ Ok x)
      go (Ok x) v = (x, refl)
      go (Err q) v = let z : true ≡ false = sym (ap is_ok e) ∙ v in absurd (cc)

  pub err_of : {d : D} → s ≡ Err d → (q : E) × (r ≡ Err q)
  err_of e = go r same
    where
      go : (r : Result A E) → is_ok s ≡ is_ok r → (q : E) × (r ≡ Err q)
      go (Ok x) v = let z : false ≡ true = sym (ap is_ok e) ∙ v in absurd (cc)
      go (Err q) v = (q, refl)

-- What is passed on is the refusal that was given.
pub err_passed : {B D : Type 0} {passed answer : Result B D} {d q : D} → IsErrAnd passed (λ x. x ≡ d) → d ≡ q → Err q ≡ answer → passed ≡ answer
err_passed {passed = passed} h e is =
    let p = err_from_is_err_and passed h in
    p.1 ∙ ap Err (p.2 ∙ e) ∙ is
