-- The claims about plans, proved. Assumes nothing.
use Rattle.std.specs.Prelude.{Result, Ok, Err}
use Prim.Native.Nat.{ℕ, ◌+◌, ◌*◌, ◌%◌, ◌≤◌, ◌<◌}
use native.Mathlib.Nat.{mod-lt, mul-mod_left}
use native.Mathlib.Omega.{arith}
use mathlib.Core.Path.{◌≡◌, refl, sym, ap, ◌∙◌, subst}
use mathlib.Core.Bool.{Bool, true, false, cond, not}
use mathlib.Core.Logic.{⊎_elim}
use mathlib.Core.List.{List, [], ◌∷◌, map, Memᴰ}
use lib.Dec.{eqb}
use lib.IntN.{pos}
use lib.Ieee as Ieee
use borrow.Author.Tests.{le-ltb, eq-eqb, ne_eqb, eqb-false, not-false}
use Rattle.seq.proofs.Members.{mem-unmap, mem-select}
use Rattle.def.specs.Binary.{floor_log2}
use Rattle.def.specs.Constants.{slice_type_of}
use Rattle.def.specs.declared.{EvcPoc.EvcPoc, PocVal.PocVal, Refusal.Refusal, SliceType.SliceType}
use Rattle.tbl.specs.DepthRows.{is_gop_size, depth_rule}
use Rattle.poc.specs.PictureNumber.{Derivation, max_poc, max_log2, derive}
use Rattle.poc.specs.Why.{Refusing}
use Rattle.poc.specs.Distance.{Step, run, is_accepted, accepted_steps, number_of, layer_of, AfterKey, Between, Apart}
use Rattle.poc.specs.FullRun.{layers_from, full_run, IsFullRun}
use Rattle.poc.proofs.Apart.{distance-from}
use Rattle.poc.proofs.FullRun.{full-run-exists}
use Rattle.poc.proofs.Why.{derive-why, derive-refused}
use Rattle.gop.specs.declared.PicturePlan.{PicturePlan}
use Rattle.gop.specs.Plan as P
use Rattle.gop.specs.Plan.{Planning}
use Rattle.gop.specs.Group.{is_planned, planned_number, plan_of, Group, PlannedRun, first_of, later_of}
use Rattle.gop.specs.Claims.{RefusedKeeps, NeverBadLayer, PlansAreFullRun, GroupsExist, EightAsListed, KeyBeforeMultiple, MultipleReadsNone}
use Rattle.gop.proofs.Lengths.{Length, a-length, layer_at, layer_fits}
use Rattle.gop.proofs.Derivations.{all-between}

-- ---- the full run

module _ (inter : SliceType) (L : ℕ) where
  planned-as : (s : Step) → is_planned (plan_of inter L s) ≡ is_accepted s
  planned-as s = go s.answer
    where
      flag : Bool
      flag = not (eqb (layer_of s + 1) (L + 1))

      go : (a : Result PocVal Refusal)
          → is_planned (P.derived_plan inter (layer_of s + 1) flag a s.after) ≡ is_accepted (record { call = s.call; answer = a; after = s.after })
      go (Ok n) = refl
      go (Err why) = refl

  number-as : (s : Step) → planned_number (plan_of inter L s) ≡ number_of s
  number-as s = go s.answer
    where
      flag : Bool
      flag = not (eqb (layer_of s + 1) (L + 1))

      go : (a : Result PocVal Refusal)
          → planned_number (P.derived_plan inter (layer_of s + 1) flag a s.after) ≡ number_of (record { call = s.call; answer = a; after = s.after })
      go (Ok n) = refl
      go (Err why) = refl

  numbers_as : (ss : List Step) → map planned_number (map (plan_of inter L) ss) ≡ map number_of ss
  numbers_as [] = refl
  numbers_as (s ∷ ss) = rw (number-as s, numbers_as ss)

-- what is known of the first plan
record First (p : ℕ) (x : Planning) : Type 0 where
  planned : is_planned x ≡ true
  number : planned_number x ≡ pos p
  after : AfterKey p x.poc

-- the conclusions, from the rule's and the derivations that the plans are
module _ (inter : SliceType) (L p : ℕ) (x : Planning) (xs : List Planning) (one : First p x)
    (are : xs ≡ map (plan_of inter L) (accepted_steps x.poc (full_run L))) (exists : IsFullRun L x.poc (full_run L)) where
  apart : Apart L p (accepted_steps x.poc (full_run L))
  apart = distance-from L p x.poc (full_run L) one.after exists.meets

  numbers : map planned_number xs ≡ map number_of (accepted_steps x.poc (full_run L))
  numbers = ap (map planned_number) are ∙ numbers_as inter L (accepted_steps x.poc (full_run L))

  -- a plan is that of an accepted derivation
  from_step : (Q : Planning → Type 0) → ((s : Step) → Memᴰ s (accepted_steps x.poc (full_run L)) → Q (plan_of inter L s))
      → (y : Planning) → Memᴰ y xs → Q y
  from_step Q f y m =
      let u = mem-unmap (plan_of inter L) (accepted_steps x.poc (full_run L)) (subst (λ (l : List Planning). Memᴰ y l) are m) in
      subst Q (sym u.2) (f u.0 u.1)

  are-accepted : (s : Step) → Memᴰ s (accepted_steps x.poc (full_run L)) → is_accepted s ≡ true
  unfolding accepted_steps
  are-accepted s m = (mem-select is_accepted (run x.poc (full_run L)) m).1

  run_of : PlannedRun L p inter x xs
  run_of =
      record {
        first_planned = one.planned;
        first_number = one.number;
        first_record = one.after;
        planned = from_step (λ y. is_planned y ≡ true) (λ s m. planned-as inter L s ∙ are-accepted s m);
        differ = rw (one.number, numbers) apart.differ;
        within = from_step (λ y. Between L p (planned_number y)) (λ s m. rw (number-as inter L s) (apart.within s m));
        each_once = λ n b. rw numbers (apart.full_run exists.full n b);
        are = are;
        apart = apart;
      }

-- the plan of the multiple: whether it is a key picture or not, its number is the count and the record is written anew
module _ (length interval inter p : ℕ) (r : EvcPoc) (type : P.is_inter (slice_type_of inter) ≡ true) (g : Group length interval p) where
  first-is : first_of p length interval inter r ≡ cond (P.is_key p interval) (P.at_count SliceType.EVC_ST_I 0 p) (P.at_count (slice_type_of inter) 1 p)
  unfolding P.plan
  first-is = rw (g.is_length, type, le-ltb max_poc p g.highest, eq-eqb (p % length) 0 g.multiple)

  first : First p (first_of p length interval inter r)
  first = subst (λ (x : Planning). First p x) (sym first-is) (pick (P.is_key p interval))
    where
      pick : (b : Bool) → First p (cond b (P.at_count SliceType.EVC_ST_I 0 p) (P.at_count (slice_type_of inter) 1 p))
      pick true = record { planned = refl; number = refl; after = record { previous = refl; offset = refl } }
      pick false = record { planned = refl; number = refl; after = record { previous = refl; offset = refl } }

pub plans-are-full-run : PlansAreFullRun
plans-are-full-run length interval inter p r type g = (known.power, run_of (slice_type_of inter) (floor_log2 length) p _ _ one are exists)
  where
    known : Length length
    known = a-length length g.is_length

    one : First p (first_of p length interval inter r)
    one = first length interval inter p r type g

    exists : IsFullRun (floor_log2 length) (first_of p length interval inter r).poc (full_run (floor_log2 length))
    exists = full-run-exists (floor_log2 length) p (first_of p length interval inter r).poc known.short g.highest one.after

    are : later_of p length interval inter r
        ≡ map (plan_of (slice_type_of inter) (floor_log2 length)) (accepted_steps (first_of p length interval inter r).poc (full_run (floor_log2 length)))
    are = rw exists.none_turned_down (all-between length interval inter p type g (first_of p length interval inter r).poc)

pub groups-exist : GroupsExist
groups-exist length k e h =
    record { is_length = e; multiple = mul-mod_left k length; highest = h; no_key = λ j low _. ne_eqb (k * length + j) 0 (omega arith) }

pub eight-as-listed : EightAsListed
unfolding depth_rule layers_from Ieee.size Ieee.span Ieee.climb floor_log2
eight-as-listed = (refl, refl)

pub key-before-multiple : KeyBeforeMultiple
unfolding P.plan
key-before-multiple r = refl

pub multiple-reads-none : MultipleReadsNone
unfolding P.plan
multiple-reads-none r = refl

-- ---- a plan that is turned down

-- what holds of both arms holds of what a test picks
either-arm : {A : Type 0} (Q : A → Type 0) (b : Bool) {x y : A} → (b ≡ true → Q x) → (b ≡ false → Q y) → Q (cond b x y)
either-arm Q true f g = f refl
either-arm Q false f g = g refl

-- the derivation that a plan asks for
abbrev asked : ℕ → ℕ → EvcPoc → Derivation
asked count length r = derive (floor_log2 length) (layer_at (count % length)) r

-- what holds of every plan that is accepted, and of each refusal, holds of what the planner gives
module _ (count length interval inter : ℕ) (hierarchy : Bool) (r : EvcPoc) (Q : Planning → Type 0)
    (done : (p : PicturePlan) (q : EvcPoc) → Q (record { answer = Ok p; poc = q }))
    (derived : is_gop_size length ≡ true → 1 ≤ count % length → (why : Refusal) → (asked count length r).answer ≡ Err why
    → Q (P.refused_plan why (asked count length r).poc)) where
  by_answer : (a : Result PocVal Refusal) → (asked count length r).answer ≡ a → is_gop_size length ≡ true → 1 ≤ count % length → (depth : ℕ) (flag : Bool)
      → Q (P.derived_plan (slice_type_of inter) depth flag a (asked count length r).poc)
  by_answer (Ok n) e l m depth flag = done _ _
  by_answer (Err why) e l m depth flag = derived l m why e

  each_way : Q (P.refused_plan Refusal.BadLength r) → Q (P.refused_plan Refusal.BadPlan r) → Q (P.plan count length interval inter hierarchy r)
  unfolding P.plan
  each_way bad_length bad_plan =
      either-arm Q (not (is_gop_size length)) (λ _. bad_length)
      (λ l. either-arm Q (P.bad_plan count length (P.is_key count interval) (slice_type_of inter) hierarchy) (λ _. bad_plan)
      (λ _. either-arm Q (P.is_key count interval) (λ _. done _ _)
      (λ _. either-arm Q (eqb (count % length) 0) (λ _. done _ _)
      (λ m. either-arm Q hierarchy
      (λ _. by_answer (asked count length r).answer refl (not-false _ l) (let e = eqb-false (count % length) 0 m in omega arith) _ _)
      (λ _. done _ _)))))

not-refused : {p : PicturePlan} {why : Refusal} → Ok p ≡ Err why → ⊥
not-refused e = cc

pub refused-keeps : RefusedKeeps
refused-keeps count length interval inter hierarchy r =
    each_way count length interval inter hierarchy r (λ (x : Planning). (why : Refusal) → x.answer ≡ Err why → x.poc ≡ r)
    (λ _ _ _ e. absurd (not-refused e)) (λ _ _ why a _ _. derive-refused _ _ r why a) (λ _ _. refl) (λ _ _. refl)

-- the derivation gives 15 for no layer that the sub-group has
not-bad-layer : (L t : ℕ) (r : EvcPoc) → L ≤ max_log2 → t ≤ L → (derive L t r).answer ≡ Err Refusal.BadLayer → ⊥
not-bad-layer L t r short fits e = by ((derive-why L t r Refusal.BadLayer).0 e)
  where
    by : Refusing L t r Refusal.BadLayer → ⊥
    by (Refusing.is_bad_layer b) = ⊎_elim (λ (h : max_log2 < L). let z : ⊥ = omega arith in z) (λ (h : L < t). let z : ⊥ = omega arith in z) b

pub never-bad-layer : NeverBadLayer
never-bad-layer count length interval inter hierarchy r =
    each_way count length interval inter hierarchy r (λ (x : Planning). x.answer ≡ Err Refusal.BadLayer → ⊥)
    (λ _ _ e. not-refused e) (λ l m why a e. let k : why ≡ Refusal.BadLayer = cc in derived l m (a ∙ ap Err k))
    (λ e. cc) (λ e. cc)
  where
    derived : is_gop_size length ≡ true → 1 ≤ count % length → (asked count length r).answer ≡ Err Refusal.BadLayer → ⊥
    derived l m =
        let known = a-length length l in
        let low = known.above-one in
        not-bad-layer (floor_log2 length) (layer_at (count % length)) r known.short (layer_fits length (count % length) known m (mod-lt count (omega arith)))
