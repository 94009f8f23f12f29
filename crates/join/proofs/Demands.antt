-- The refusals of demands (10, 11) in the plan of a room, and of two demand lists in a row.
use mathlib.Core.Path.{◌≡◌, refl, sym, ap, ◌∙◌}
use mathlib.Core.Bool.{Bool, true, false, not, true≢false}
use mathlib.Core.List.{List, [], ◌∷◌, ◌++◌}
use Prim.Native.Nat.{ℕ, suc, ◌+◌, ◌≤◌, ◌<◌}
use native.Mathlib.Omega.{arith}
use lib.ListN.{length}
use lib.Dec.{eqb, ltb}
use borrow.Author.Tests.{eqb-true, eq-eqb, ne_eqb, ltb-true, ltb-false, lt-ltb, le-ltb}
use Rattle.outcomes.specs.Outcome.{accepted, refused}
use Rattle.outcomes.proofs.Outcomes.{accepted≢refused, unless_stop, unless_pass, unless-back, unless_either}
use Rattle.figures.specs.Bounds.{first_not_below}
use Rattle.rooms.specs.Table.{Room, room_cords}
use Rattle.deals.specs.Plan.{Plan, plan_of, PlanOutcome, first_too_large, count_differs, demand_too_large, plan_room}
use Rattle.deals.specs.declared.Lengths.{Lengths}
use Rattle.deals.specs.declared.PlanRefusal.TheVariants.{DemandCount, DemandTooLarge}
use Rattle.deals.proofs.Plans.{lists-passed, lists_either, plan_room_is}
use Rattle.join.specs.Promises.{Ample}

-- ---- The first of two lists in a row that is not below a bound

module _ (bound : ℕ) where
  pub first_in_second : (d e : List ℕ) → length d ≤ first_not_below bound d → first_not_below bound (d ++ e) ≡ length d + first_not_below bound e
  unfolding first_not_below
  first_in_second [] e h = omega arith
  first_in_second (x ∷ d) e h = go (first_in_second d e) (ltb x bound) refl
    where
      go : (length d ≤ first_not_below bound d → first_not_below bound (d ++ e) ≡ length d + first_not_below bound e)
          → (t : Bool) → ltb x bound ≡ t → first_not_below bound ((x ∷ d) ++ e) ≡ suc (length d) + first_not_below bound e
      go rest true q =
          let more : length d ≤ first_not_below bound d = (let z : suc (length d) ≤ suc (first_not_below bound d) = rw q at h in omega arith) in
          rw q (omega (arith, rest more))
      go rest false q = absurd (let z : suc (length d) ≤ 0 = rw q at h in omega arith)

  pub first_in_first : (d e : List ℕ) → first_not_below bound d < length d → first_not_below bound (d ++ e) ≡ first_not_below bound d
  unfolding first_not_below
  first_in_first [] e h = absurd (omega arith)
  first_in_first (x ∷ d) e h = go (first_in_first d e) (ltb x bound) refl
    where
      go : (first_not_below bound d < length d → first_not_below bound (d ++ e) ≡ first_not_below bound d) → (t : Bool) → ltb x bound ≡ t → first_not_below bound ((x ∷ d) ++ e) ≡ first_not_below bound (x ∷ d)
      go rest true q =
          let less : first_not_below bound d < length d = (let z : suc (first_not_below bound d) < suc (length d) = rw q at h in omega arith) in
          rw q (ap suc (rest less))
      go rest false q = rw q

-- ---- One room

pub same_count : (a b : ℕ) → not (eqb a b) ≡ false → a ≡ b
same_count a b e = go (eqb a b) refl e
  where
    go : (t : Bool) → eqb a b ≡ t → not t ≡ false → a ≡ b
    go true q d = eqb-true a b q
    go false q d = absurd (true≢false d)

module _ (r : Room) (d : List ℕ) (lengths : Lengths) where
  -- The demands are one a server, and none is too large.
  pub record DemandsFit : Type 0 where
    pub count : length d ≡ length r.servers
    pub none : length d ≤ first_too_large d

  pub accepted_demands : {p : Plan} → plan_room r d lengths ≡ accepted p → DemandsFit
  accepted_demands e =
      let count = unless-back _ _ (plan_of r d) (sym (plan_room_is r d lengths) ∙ e) in
      let large = unless-back _ _ (plan_of r d) count.1 in
      record { count = same_count _ _ count.0; none = ltb-false _ _ large.0 }

  -- A demand is too large, and this is the first.
  pub record TooLarge (i : ℕ) : Type 0 where
    pub count : length d ≡ length r.servers
    pub is : i ≡ first_too_large d
    pub within : first_too_large d < length d

  pub too_large_told : {i : ℕ} → TooLarge i → plan_room r d lengths ≡ refused (DemandTooLarge i)
  too_large_told t =
      plan_room_is r d lengths
      ∙ unless_pass _ _ (plan_of r d) (ap not (eq-eqb (length d) (length r.servers) t.count))
      ∙ unless_stop _ _ (plan_of r d) (lt-ltb (first_too_large d) (length d) t.within)
      ∙ ap (λ (n : ℕ). refused (DemandTooLarge n)) (sym t.is)

  pub count-told : (length d ≡ length r.servers → ⊥) → plan_room r d lengths ≡ refused (DemandCount (length r.servers))
  count-told n = plan_room_is r d lengths ∙ unless_stop _ _ (plan_of r d) (ap not (ne_eqb (length d) (length r.servers) n))

  pub ample_told : DemandsFit → Ample r lengths → plan_room r d lengths ≡ accepted (plan_of r d)
  ample_told f a =
      plan_room_is r d lengths
      ∙ unless_pass _ _ (plan_of r d) (ap not (eq-eqb (length d) (length r.servers) f.count))
      ∙ unless_pass _ _ (plan_of r d) (le-ltb (first_too_large d) (length d) f.none)
      ∙ lists-passed (plan_of r d) (room_cords r) (length r.servers) lengths a

  abbrev Told : ℕ → PlanOutcome → Type 0
  Told i o = o ≡ refused (DemandTooLarge i) → TooLarge i

  pub too_large_back : {i : ℕ} → plan_room r d lengths ≡ refused (DemandTooLarge i) → TooLarge i
  too_large_back {i} e =
      unless_either (count_differs DemandCount r d) _ (plan_of r d) (Told i) (λ h z. absurd (let q : ◌≡◌ {A = ℕ} 0 1 = cc in omega arith)) (λ same.
      unless_either (demand_too_large DemandTooLarge d) _ (plan_of r d) (Told i)
      (λ h z. let q : first_too_large d ≡ i = cc in record { count = same_count _ _ same; is = sym q; within = ltb-true _ _ h }) (λ _.
      lists_either (plan_of r d) (room_cords r) (length r.servers) lengths (Told i)
      (λ list place z. absurd (let q : ◌≡◌ {A = ℕ} 0 1 = cc in omega arith)) (λ z. absurd (accepted≢refused z))))
      (sym (plan_room_is r d lengths) ∙ e)
