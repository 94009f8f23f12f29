-- Judge in the code's terms: what it comes to, from what loading does and the count of grants.
use mathlib.Core.Path.{◌≡◌, refl, sym, ap, ◌∙◌, subst}
use mathlib.Core.List.{List}
use Prim.Native.Nat.{ℕ}
use native.Mathlib.Nat.{le_of_eq}
use lib.ListN.{length}
use borrow.Author.Tests.{eq-eqb, ne_eqb}
use Rattle.outcomes.specs.Outcome.{accepted, refused, unless}
use Rattle.rooms.specs.Part.{good}
use Rattle.rooms.specs.Table.{Room, room_cords}
use Rattle.rooms.specs.Limits.{checked, lows_told}
use Rattle.rooms.specs.Rows.{OfRoom, ServersFit, CordsFit, ScaleIs}
use Rattle.layout.specs.Outcome.{LoadOutcome, loading, loaded_of}
use Rattle.layout.specs.declared.room.Counts.{Counts}
use Rattle.layout.specs.declared.room.LoadRefusal.{LoadRefusal}
use Rattle.std.specs.Prelude.{Ok, Err}
use Rattle.layout.proofs.Loads.{RoomFound, found_good, nodes-fit, nodes_few, cords-count, demands_fit, lows_long, lows-told}
use Rattle.deals.specs.Judge.{verdict}
use Rattle.deals.specs.declared.Verdict.{Verdict}
use Rattle.judge.specs.Outcome.{judge_loaded, judging, answer_of}
use Rattle.judge.specs.Lists.{NodesGiven}
use Rattle.judge.specs.declared.JudgeRefusal.TheVariants.{Load, GrantCount}

module _ (table demands grants : List ℕ) where
  judging_is : {o : LoadOutcome} → loading table demands ≡ o → judging table demands grants ≡ judge_loaded o demands grants
  unfolding judging
  judging_is e = ap (λ (o : LoadOutcome). judge_loaded o demands grants) e

  -- ---- Refused by loading

  by_refusal : (q : LoadRefusal) → judge_loaded (refused q) demands grants ≡ refused (Load q)
  unfolding judge_loaded
  by_refusal q = refl

  pub load_told : {q : LoadRefusal} → Err q ≡ loaded_of (loading table demands) → Err (Load q) ≡ answer_of (judging table demands grants)
  load_told {q = q} d = go (loading table demands) refl d
    where
      go : (o : LoadOutcome) → loading table demands ≡ o → Err q ≡ loaded_of o → Err (Load q) ≡ answer_of (judging table demands grants)
      go (accepted r) is told = absurd (cc)
      go (refused p) is told = let same : q ≡ p = cc in ap (λ (x : LoadRefusal). Err (Load x)) same ∙ sym (ap answer_of (judging_is is ∙ by_refusal p))

  -- ---- A room that is loaded

  module _ (r : Room) where
    by_count : (length grants ≡ room_cords r → ⊥) → judge_loaded (accepted r) demands grants ≡ refused (GrantCount (room_cords r))
    unfolding judge_loaded unless
    by_count n = rw (ne_eqb (length grants) (room_cords r) n) refl

    by_verdict : length grants ≡ room_cords r → judge_loaded (accepted r) demands grants ≡ accepted (verdict r demands grants)
    unfolding judge_loaded unless
    by_verdict e = rw (eq-eqb (length grants) (room_cords r) e) refl

  module _ {counts : Counts} (f : RoomFound table demands counts) where
    pub count-told : (length grants ≡ counts.cords → ⊥) → Err (GrantCount counts.cords) ≡ answer_of (judging table demands grants)
    count-told n =
        ap (λ (k : ℕ). Err (GrantCount k)) (cords-count f)
        ∙ sym (ap answer_of (judging_is f.accepts ∙ by_count f.room (λ e. n (e ∙ sym (cords-count f)))))

    -- What is said of the room found is said of the table's.
    of_found : (p : Room → Type 0) → p f.room → OfRoom table p
    of_found p here r end q =
        let h : good f.room f.end ≡ good r end = sym f.is ∙ q in
        let same : f.room ≡ r = cc in
        subst p same here

    pub scale_fits : ScaleIs table counts.scale
    scale_fits = of_found (λ r. counts.scale ≡ r.scale) (ap (λ (c : Counts). c.scale) f.counted)

    pub servers-fit : ServersFit table (length demands)
    servers-fit = demands_fit f

    pub nodes-given : {beneath : List ℕ} → beneath ≡ lows_told (checked table 0) → NodesGiven table counts.nodes beneath
    nodes-given {beneath} e = record {
      good_table = found_good f;
      nodes-fit = nodes-fit f;
      few = nodes_few f;
      beneath_long = le_of_eq (lows_long table beneath e);
      beneath_is = lows-told table beneath e;
    }

    module _ (size : length grants ≡ counts.cords) where
      pub grants_fit : CordsFit table (length grants)
      grants_fit = of_found (λ r. length grants ≡ room_cords r) (size ∙ cords-count f)

      pub verdict-told : {v : Verdict} → ((r : Room) (end : ℕ) → checked table 0 ≡ good r end → v ≡ verdict r demands grants) → Ok v ≡ answer_of (judging table demands grants)
      verdict-told is =
          ap Ok (is f.room f.end f.is) ∙ sym (ap answer_of (judging_is f.accepts ∙ by_verdict f.room (size ∙ cords-count f)))
