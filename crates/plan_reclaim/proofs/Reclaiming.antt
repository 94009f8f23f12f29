-- The turns of the loops that go over the cords after a deal: what each server can use, and what the cords leave stranded.
use mathlib.Core.Path.{◌≡◌, refl, sym, ap, ap₂, ◌∙◌}
use mathlib.Core.Bool.{Bool, true, false, cond, ◌&&◌}
use mathlib.Core.List.{List}
use Prim.Native.Nat.{ℕ, ◌+◌, ◌-◌, ◌*◌, ◌/◌, ◌≤◌, ◌<◌, min}
use native.Mathlib.Nat.{le_trans, le_of_eq, mul-le-mul}
use native.Mathlib.Numerals.{add-one}
use native.Mathlib.Omega.{arith}
use lib.Dec.{eqb, ltb}
use lib.ListN.{length, set, length-set, length-map, get_or-map}
use lib.Seq.{get_or-set_same, get_or-set_other, ext_get_or}
use borrow.Author.Tests.{eqb-true, eqb-false, lt-ltb, le-ltb}
use Rattle.figures.specs.Sums.{sum}
use Rattle.rooms.specs.Limits.{carried}
use Rattle.figures.proofs.Tests.{and_false}
use Rattle.figures.proofs.Sums.{sum_suc, sum_none}
use Rattle.figures.specs.Figures.{figures, at, sum_of}
use Rattle.rooms.specs.Rows.{servers_in, shares_in, cord_row_at, no_cord_row}
use Rattle.rooms.specs.declared.lists.CordRow.{CordRow}
use Rattle.plan_reclaim.specs.Reclaimed.{ServerLists, usable_before, usable_from, used_from, stranded_from, wants_from}
use Rattle.figures.proofs.Lists.{figures-at, figures-length, total-sum}
use Rattle.deals.proofs.Loads.{least_over_next, least_over_zero, least_over_start}
use Rattle.figures.proofs.Filled.{Filled, filled_none, filled_one, filled_all}

-- The share of each cord, the place of its server, and what it carries of what its server can use.
abbrev shares : List CordRow → List ℕ
shares cords = shares_in cords

abbrev servers : List CordRow → List ℕ
servers cords = servers_in cords

abbrev used : ℕ → List CordRow → List ℕ → List ℕ
used scale cords usable = used_from scale (shares cords) (servers cords) usable

-- ---- The usable watts

-- Each server's usable watts by its cords before place c.
pub record UsableBy (scale : ℕ) (cords : List CordRow) (needs grants : List ℕ) (c : ℕ) (usable : List ℕ) : Type 0 where
  pub size_is : length usable ≡ length needs
  pub is : (v : ℕ) → v < length needs → at usable v ≡ usable_before scale (shares cords) (servers cords) needs grants c v

module _ {scale : ℕ} {cords : List CordRow} {needs grants : List ℕ} where
  pub usable_none : UsableBy scale cords needs grants 0 needs
  usable_none = record { size_is = refl; is = λ v l. sym (least_over_zero _ _ (at needs v)) }

  module _ {c : ℕ} {usable : List ℕ} (by : UsableBy scale cords needs grants c usable) where
    -- One cord more: its share is 0, or it lowers its server's figure to the load at which it carries its grant.
    pub usable_kept : (cord_row_at cords c).share ≡ 0 → UsableBy scale cords needs grants (c + 1) usable
    usable_kept z =
        let none : at (shares cords) c ≡ 0 = get_or-map (λ (row : CordRow). row.share) cords c no_cord_row ∙ z in
        record {
          size_is = by.size_is;
          is = λ v l. by.is v l ∙ sym (least_over_next c _ _ (at needs v) false (ap (λ (t : Bool). eqb (at (servers cords) c) v && t) (le-ltb 0 (at (shares cords) c) (omega arith)) ∙ and_false (eqb (at (servers cords) c) v)));
        }

    pub usable_lowered : {v share times grant before after : ℕ} → v ≡ (cord_row_at cords c).server → v < length needs → share ≡ (cord_row_at cords c).share → (share ≡ 0 → ⊥)
        → times ≡ scale → grant ≡ at grants c → before ≡ at usable v → after ≡ min before (times * grant / share)
        → UsableBy scale cords needs grants (c + 1) (set usable v after)
    usable_lowered {v} {share} {times} {grant} {before} {after} place within part some et eg eb ea =
        record { size_is = length-set usable v after ∙ by.size_is; is = λ h l. go h l (eqb (at (servers cords) c) h) refl }
      where
        ev : v ≡ at (servers cords) c
        ev = place ∙ sym (get_or-map (λ (row : CordRow). row.server) cords c no_cord_row)

        es : share ≡ at (shares cords) c
        es = part ∙ sym (get_or-map (λ (row : CordRow). row.share) cords c no_cord_row)

        lowered : after ≡ min (at usable v) (scale * at grants c / at (shares cords) c)
        lowered = ea ∙ rw (es, et, eg, eb)

        go : (h : ℕ) → h < length needs → (t : Bool) → eqb (at (servers cords) c) h ≡ t → at (set usable v after) h ≡ usable_before scale (shares cords) (servers cords) needs grants (c + 1) h
        go h l true q =
            let here : v ≡ h = ev ∙ eqb-true (at (servers cords) c) h q in
            ap (at (set usable v after)) (sym here)
            ∙ get_or-set_same usable v after 0 (omega (arith, by.size_is))
            ∙ lowered
            ∙ ap (λ (x : ℕ). min x (scale * at grants c / at (shares cords) c)) (ap (at usable) here ∙ by.is h l)
            ∙ sym (least_over_next c _ _ (at needs h) true (ap₂ ◌&&◌ q (lt-ltb 0 (at (shares cords) c) (omega (arith, es)))))
        go h l false q =
            get_or-set_other usable v h after 0 (λ z. eqb-false (at (servers cords) c) h q (sym (z ∙ ev)))
            ∙ by.is h l
            ∙ sym (least_over_next c _ _ (at needs h) false (ap (λ (t : Bool). t && ltb 0 (at (shares cords) c)) q))

    pub usable_all : c ≡ length cords → usable ≡ usable_from scale (shares cords) (servers cords) needs grants
    usable_all e =
        let all : c ≡ length (shares cords) = e ∙ sym (length-map cords (λ (row : CordRow). row.share)) in
        rw (← all)
        (ext_get_or 0 usable (figures (length needs) (usable_before scale (shares cords) (servers cords) needs grants c)) (by.size_is ∙ sym (figures-length (length needs) _))
        (λ v l. let here : v < length needs = omega (arith, by.size_is) in by.is v here ∙ sym (figures-at (length needs) v _ here)))

-- A product of two figures of 32 bits is below 2^64, whatever they are.
pub product_fits : {a b : ℕ} → a < 4294967296 → b < 4294967296 → a * b < 18446744073709551616
product_fits {a} {b} l h =
    let most : a ≤ 4294967295 = omega arith in
    let most' : b ≤ 4294967295 = omega arith in
    omega (arith, mul-le-mul most most')

-- They are no more than the needs, so that the cords carry them too.
pub usable-lists : {scale : ℕ} {cords : List CordRow} {needs : List ℕ} (grants : List ℕ) {n : ℕ} → ServerLists scale cords needs n
    → ServerLists scale cords (usable_from scale (shares cords) (servers cords) needs grants) n
usable-lists {scale} {cords} {needs} grants lists =
    let size = figures-length (length needs) (usable_before scale (shares cords) (servers cords) needs grants (length (shares cords))) in
    record {
      scaled = lists.scaled;
      few = lists.few;
      grants_size = lists.grants_size;
      within = λ c l. omega (arith, lists.within c l);
      parts = lists.parts;
      most = λ v l.
          let here : v < length needs = omega arith in
          le_trans (le_of_eq (figures-at (length needs) v _ here)) (le_trans (least_over_start (length (shares cords)) _ _ (at needs v)) (lists.most v here));
    }

-- ---- The watts freed, and the wants of the next deal

-- After the cords before place c.
pub record Reclaiming (scale : ℕ) (cords : List CordRow) (usable grants first starts₀ : List ℕ) (c freed : ℕ) (starts wants : List ℕ) : Type 0 where
  pub freed_is : freed ≡ sum c (at (stranded_from (used scale cords usable) grants))
  pub freed_most : freed ≤ c * 4294967295
  pub starts_done : Filled (at (used scale cords usable)) (length starts₀) c starts
  pub wants_done : Filled (at (wants_from (used scale cords usable) grants first)) (length first) c wants
  pub wants_left : (h : ℕ) → c ≤ h → at wants h ≡ at first h

used_length : (scale : ℕ) (cords : List CordRow) (usable : List ℕ) → length (used scale cords usable) ≡ length cords
used_length scale cords usable = figures-length (length (shares cords)) _ ∙ length-map cords (λ (row : CordRow). row.share)

module _ {scale : ℕ} {cords : List CordRow} {usable grants first starts₀ : List ℕ} where
  pub reclaiming_start : Reclaiming scale cords usable grants first starts₀ 0 0 starts₀ first
  reclaiming_start = record { freed_is = sym (sum_none _); freed_most = omega arith; starts_done = filled_none _ starts₀; wants_done = filled_none _ first; wants_left = λ h l. refl }

  module _ {c freed : ℕ} {starts wants : List ℕ} (by : Reclaiming scale cords usable grants first starts₀ c freed starts wants) (sizes : (length starts₀ ≡ length cords) × (length first ≡ length cords)) where
    module _ (here : c < length cords)
        {share v x watts more : ℕ} (share_is : share ≡ (cord_row_at cords c).share) (place_is : v ≡ (cord_row_at cords c).server)
        (used_is : x ≡ carried scale share (at usable v)) (stranded_is : watts ≡ at grants c - x)
        (most : watts ≤ 4294967295) (more_is : more ≡ freed + watts) where
      used_here : at (used scale cords usable) c ≡ x
      used_here =
          figures-at (length (shares cords)) c _ (omega (arith, length-map cords (λ (row : CordRow). row.share)))
          ∙ ap₂ (λ (part h : ℕ). carried scale part (at usable h)) (get_or-map (λ (row : CordRow). row.share) cords c no_cord_row ∙ sym share_is) (get_or-map (λ (row : CordRow). row.server) cords c no_cord_row ∙ sym place_is)
          ∙ sym used_is

      placed : c < length (used scale cords usable)
      placed = omega (arith, used_length scale cords usable)

      stranded-here : at (stranded_from (used scale cords usable) grants) c ≡ watts
      stranded-here = figures-at _ c _ placed ∙ ap (λ (y : ℕ). at grants c - y) used_here ∙ sym stranded_is

      want_here : {want : ℕ} → want ≡ cond (ltb 0 watts) x (at wants c) → want ≡ at (wants_from (used scale cords usable) grants first) c
      want_here e =
          e
          ∙ ap (cond (ltb 0 watts) x) (by.wants_left c (omega arith))
          ∙ sym (figures-at _ c _ placed ∙ ap₂ (λ (y z : ℕ). cond (ltb 0 y) z (at first c)) stranded-here used_here)

      freed-here : more ≡ sum (c + 1) (at (stranded_from (used scale cords usable) grants))
      freed-here =
          more_is
          ∙ ap₂ ◌+◌ by.freed_is (sym stranded-here)
          ∙ sym (ap (λ (n : ℕ). sum n (at (stranded_from (used scale cords usable) grants))) (add-one c) ∙ sum_suc c _)

      -- One cord more: it wants its used watts if it leaves watts stranded, else what it did.
      pub reclaiming_more : {want : ℕ} → want ≡ cond (ltb 0 watts) x (at wants c) → Reclaiming scale cords usable grants first starts₀ (c + 1) more (set starts c x) (set wants c want)
      reclaiming_more {want} e =
          record {
            freed_is = freed-here;
            freed_most = omega (arith, by.freed_most);
            starts_done = filled_one x by.starts_done (omega (arith, sizes.0)) (sym used_here);
            wants_done = filled_one want by.wants_done (omega (arith, sizes.1)) (want_here e);
            wants_left = λ i l. get_or-set_other wants c i want 0 (λ e. omega arith) ∙ by.wants_left i (omega arith);
          }

    pub reclaiming_end : c ≡ length cords
        → (freed ≡ sum_of (stranded_from (used scale cords usable) grants)) × ((starts ≡ used scale cords usable) × (wants ≡ wants_from (used scale cords usable) grants first))
    reclaiming_end e =
        let n = used_length scale cords usable in
        let last : List ℕ = stranded_from (used scale cords usable) grants in
        let all : c ≡ length last = omega (arith, figures-length (length (used scale cords usable)) (λ c. at grants c - at (used scale cords usable) c)) in (
          by.freed_is ∙ ap (λ (n : ℕ). sum n (at last)) all ∙ sym (total-sum (λ a. a) 0 last),
          (
            ext_get_or 0 starts (used scale cords usable) (omega (arith, by.starts_done.size_is, sizes.0)) (λ i l. by.starts_done.done i (omega (arith, by.starts_done.size_is, sizes.0))),
            filled_all _ _ by.wants_done (omega (arith, sizes.1)) (omega arith) (λ i l. figures-at _ i _ l),
          ),
        )
