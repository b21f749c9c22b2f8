-- How what a crash may have left goes on from call to call.
use Rattle.std.proofs.Common.{◌≡◌, ◌⊎◌, inl, inr, ℕ, List, [], ◌∷◌, ◌++◌, refl, sym, ap, ◌∙◌, append_assoc, arith}
use Rattle.std.specs.Prelude.{Option, None, Some, IfSome}
use Rattle.go_disk.specs.Device.{Device, IsDevice}
use Rattle.go_disk.specs.Disk.{Elapses, IsSynced, noted_at}
use Rattle.go_durable.specs.Moments.{HasNewer, IsFirstNewer, Passes, LeavesOnly, SettlesTo}

-- nothing new is noted
pub none_newer : (old new : List ℕ) → new ≡ old → HasNewer old new
none_newer old new same = record { newer = []; parts = same }

-- a sync is noted, where the disk tells
pub noted_newer : (contents : Option (List ℕ)) (moment : ℕ) (old new : List ℕ) → new ≡ noted_at contents moment old → HasNewer old new
noted_newer None moment old new is = record { newer = []; parts = is }
noted_newer (Some bytes) moment old new is = record { newer = moment ∷ []; parts = is }

-- first this is noted, then that
pub newer_on : (old mid new : List ℕ) → HasNewer old mid → HasNewer mid new → HasNewer old new
newer_on old mid new first second = record {
  newer = second.newer ++ first.newer;
  parts = second.parts ∙ ap (λ (l : List ℕ). second.newer ++ l) first.parts ∙ sym (append_assoc second.newer first.newer old);
}

-- the first that was noted stays the first
pub first_stays : (contents : Option (List ℕ)) (moment : ℕ) (old mid new : List ℕ) → IfSome contents (λ bytes. IsFirstNewer moment old mid) → HasNewer mid new
    → IfSome contents (λ bytes. IsFirstNewer moment old new)
first_stays None moment old mid new first more = tt
first_stays (Some bytes) moment old mid new first more = record {
  newer = more.newer ++ first.newer;
  parts = more.parts ∙ ap (λ (l : List ℕ). more.newer ++ l) first.parts ∙ sym (append_assoc more.newer first.newer (moment ∷ old));
}

-- a sync that was noted is the first
pub noted_first : (before now : Option (List ℕ)) (moment : ℕ) (old new : List ℕ) → now ≡ before → new ≡ noted_at now moment old
    → IfSome before (λ bytes. IsFirstNewer moment old new)
noted_first None now moment old new same is = tt
noted_first (Some bytes) None moment old new same is = cc
noted_first (Some bytes) (Some told) moment old new same is = record { newer = []; parts = is }

-- a call
pub call_passes : {D : Type 0} (device : Device D) (old new : D) → Elapses device old new → HasNewer (device.syncs old) (device.syncs new)
    → device.blunders new ≡ device.blunders old
    → Passes device old new
call_passes device old new time newer same = record { later = time.later; keeps = time.keeps; syncs = newer; blunders = same }

-- some calls and then others
pub passes_on : {D : Type 0} (device : Device D) (old mid new : D) → Passes device old mid → Passes device mid new → Passes device old new
passes_on device old mid new first second = record {
  later = omega (arith, first.later, second.later);
  keeps = λ t image le past. second.keeps t image (omega (arith, le, first.later)) (first.keeps t image le past);
  syncs = newer_on (device.syncs old) (device.syncs mid) (device.syncs new) first.syncs second.syncs;
  blunders = second.blunders ∙ first.blunders;
}

-- one call, before and after which each image has this
pub one_call : {D : Type 0} (device : Device D) (rules : IsDevice device) (old new : D) (P : List ℕ → Type 0) → Elapses device old new
    → HasNewer (device.syncs old) (device.syncs new) → device.blunders new ≡ device.blunders old
    → ((image : List ℕ) → device.images old image → P image) → ((image : List ℕ) → device.images new image → P image) → LeavesOnly device old new P
one_call device rules old new P time newer same before after = record {
  passes = call_passes device old new time newer same;
  each = λ image left. elim (time.nothing_else (device.clock old) image (omega arith) left) as (λ _. P image) [
    | inl past ↦ before image (rules.only_now old image past)
    | inr now ↦ after image now
  ];
  nothing_else = λ t image le left. elim (time.nothing_else t image le left) as (λ _. device.since old t image ⊎ device.since new (device.clock old) image) [
    | inl past ↦ inl past
    | inr now ↦ inr (rules.counts_now new (device.clock old) image time.later now)
  ];
  earlier = λ t image le left. elim (time.nothing_else (device.clock old) image (omega arith) left) as (λ _. device.since new t image) [
    | inl past ↦ time.keeps t image le (rules.counts_now old t image le (rules.only_now old image past))
    | inr now ↦ rules.counts_now new t image (omega (arith, le, time.later)) now
  ];
}

-- nothing happened
pub no_call : {D : Type 0} (device : Device D) (rules : IsDevice device) (disk : D) (P : List ℕ → Type 0)
    → ((image : List ℕ) → device.images disk image → P image) → LeavesOnly device disk disk P
no_call device rules disk P here = record {
  passes = record { later = omega arith; keeps = λ t image le past. past; syncs = none_newer (device.syncs disk) (device.syncs disk) refl; blunders = refl };
  each = λ image left. here image (rules.only_now disk image left);
  nothing_else = λ t image le left. inl left;
  earlier = λ t image le left. rules.counts_now disk t image le (rules.only_now disk image left);
}

-- one stretch after the other
pub joined : {D : Type 0} (device : Device D) (old mid new : D) (P : List ℕ → Type 0) → LeavesOnly device old mid P → LeavesOnly device mid new P
    → LeavesOnly device old new P
joined device old mid new P first second = record {
  passes = passes_on device old mid new first.passes second.passes;
  each = λ image left. elim (second.nothing_else (device.clock old) image first.passes.later left) as (λ _. P image) [
    | inl past ↦ first.each image past
    | inr now ↦ second.each image now
  ];
  nothing_else = λ t image le left.
      elim (second.nothing_else t image (omega (arith, le, first.passes.later)) left) as (λ _.
      device.since old t image ⊎ device.since new (device.clock old) image) [
        | inl past ↦ elim (first.nothing_else t image le past) as (λ _. device.since old t image ⊎ device.since new (device.clock old) image) [
          | inl older ↦ inl older
          | inr between ↦ inr (second.passes.keeps (device.clock old) image first.passes.later between)
        ]
        | inr now ↦ inr (second.earlier (device.clock old) image first.passes.later now)
      ];
  earlier = λ t image le left. elim (second.nothing_else (device.clock old) image first.passes.later left) as (λ _. device.since new t image) [
    | inl past ↦ second.passes.keeps t image (omega (arith, le, first.passes.later)) (first.earlier t image le past)
    | inr now ↦ second.earlier t image (omega (arith, le, first.passes.later)) now
  ];
}

-- what has this has that
pub weaker : {D : Type 0} (device : Device D) (old new : D) (P Q : List ℕ → Type 0) → ((image : List ℕ) → P image → Q image) → LeavesOnly device old new P
    → LeavesOnly device old new Q
weaker device old new P Q is leaves = record {
  passes = leaves.passes;
  each = λ image left. is image (leaves.each image left);
  nothing_else = leaves.nothing_else;
  earlier = leaves.earlier;
}

-- a sync that succeeded, after which each image has this: from now on each has it
pub settled : {D : Type 0} (device : Device D) (rules : IsDevice device) (old new : D) (P : List ℕ → Type 0) → Elapses device old new → IsSynced device old new
    → device.blunders new ≡ device.blunders old → ((image : List ℕ) → device.images new image → P image) → SettlesTo device old new P
settled device rules old new P time synced same after = record {
  passes = call_passes device old new time (noted_newer (device.contents new) (device.clock new) (device.syncs old) (device.syncs new) synced.syncs) same;
  moment = device.clock new;
  first = noted_first (device.contents old) (device.contents new) (device.clock new) (device.syncs old) (device.syncs new) synced.contents synced.syncs;
  begins = time.later;
  ends = omega arith;
  each = λ image left. after image (rules.only_now new image left);
  nothing_else = λ t image le left. elim (time.nothing_else t image le left) as (λ _. device.since old t image ⊎ device.since new (device.clock new) image) [
    | inl past ↦ inl past
    | inr now ↦ inr (rules.counts_now new (device.clock new) image (omega arith) now)
  ];
  earlier = λ t image le left. rules.counts_now new t image le (rules.only_now new image left);
}

-- and it goes on so
pub goes_on : {D : Type 0} (device : Device D) (old mid new : D) (P Q R : List ℕ → Type 0) → ((image : List ℕ) → P image → R image)
    → ((image : List ℕ) → Q image → R image)
    → SettlesTo device old mid P → LeavesOnly device mid new Q → SettlesTo device old new R
goes_on device old mid new P Q R from_first from_second first second = record {
  passes = passes_on device old mid new first.passes second.passes;
  moment = first.moment;
  first = first_stays (device.contents old) first.moment (device.syncs old) (device.syncs mid) (device.syncs new) first.first second.passes.syncs;
  begins = first.begins;
  ends = omega (arith, first.ends, second.passes.later);
  each = λ image left. elim (second.nothing_else first.moment image first.ends left) as (λ _. R image) [
    | inl past ↦ from_first image (first.each image past)
    | inr now ↦ from_second image (second.each image now)
  ];
  nothing_else = λ t image le left.
      elim (second.nothing_else t image (omega (arith, le, first.begins, first.ends)) left) as (λ _.
      device.since old t image ⊎ device.since new first.moment image) [
        | inl past ↦ elim (first.nothing_else t image le past) as (λ _. device.since old t image ⊎ device.since new first.moment image) [
          | inl older ↦ inl older
          | inr between ↦ inr (second.passes.keeps first.moment image first.ends between)
        ]
        | inr now ↦ inr (second.earlier first.moment image first.ends now)
      ];
  earlier = λ t image le left. elim (second.nothing_else first.moment image first.ends left) as (λ _. device.since new t image) [
    | inl past ↦ second.passes.keeps t image (omega (arith, le, first.ends)) (first.earlier t image le past)
    | inr now ↦ second.earlier t image (omega (arith, le, first.ends)) now
  ];
}

-- what has this has that, from the moment on
pub settles_weaker : {D : Type 0} (device : Device D) (old new : D) (P Q : List ℕ → Type 0) → ((image : List ℕ) → P image → Q image)
    → SettlesTo device old new P → SettlesTo device old new Q
settles_weaker device old new P Q is settles = record {
  passes = settles.passes;
  moment = settles.moment;
  first = settles.first;
  begins = settles.begins;
  ends = settles.ends;
  each = λ image left. is image (settles.each image left);
  nothing_else = settles.nothing_else;
  earlier = settles.earlier;
}
