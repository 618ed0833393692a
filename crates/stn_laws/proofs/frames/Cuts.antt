-- Bytes are whole frames, and a rest that begins with none.
use Rattle.std.{proofs.{lemmas.Grind.common_steps, Common.{rules, ◌≡◌, ℕ, zero, suc, ◌<◌, ◌≤◌, ◌^◌, List, [], ◌∷◌, ◌++◌, length, take, drop, refl, sym, ◌∙◌, arith, append_assoc, length-drop, take-append-drop}}, specs.{Prelude.flat_map, List.AllByRecursion}}
use Rattle.stn_wire.{specs.Frame.{FrameContent, spelling, IsFrame}, proofs.Fronts.shown}
use Rattle.stn_laws.proofs.frames.Fronts.{ShowsNone, some_front_lem}

pub record IsCut (bytes : List ℕ) (frames : List FrameContent) (rest : List ℕ) : Type 0 where
  pub each : AllByRecursion IsFrame frames
  pub cut : bytes ≡ flat_map spelling frames ++ rest
  pub shows : ShowsNone rest

abbrev pub AreBytes : List ℕ → Type 0
AreBytes bytes = AllByRecursion (λ byte. byte < 2 ^ 8) bytes

bytes_behind : (n : ℕ) (bytes : List ℕ) → AreBytes bytes → AreBytes (drop n bytes)
bytes_behind n bytes small = grind (arith, common_steps)

pub bytes_before : (n : ℕ) (bytes : List ℕ) → AreBytes bytes → AreBytes (take n bytes)
bytes_before n bytes small = grind (arith, common_steps)

pub some_cut : (n : ℕ) (bytes : List ℕ) → length bytes ≤ n → AreBytes bytes → ¬ ((frames : List FrameContent) (rest : List ℕ) → ¬ IsCut bytes frames rest)
some_cut zero bytes few small none =
    none [] bytes (search rules)
some_cut (suc n) bytes few small none =
    none [] bytes (record {
      each = tt;
      cut = refl;
      shows = some_front_lem bytes small (λ begins.
          let many = begins.1 in
          let is = shown bytes begins.0 many begins.2 in
          some_cut n (drop many bytes) (omega (arith, length-drop many bytes, is.long, is.within, is.lasting.0)) (bytes_behind many bytes small)
          (λ frames rest behind. none (begins.0 ∷ frames) rest (record {
            each = (begins.2.0, behind.each);
            cut = sym (take-append-drop many bytes) ∙ (λ i. begins.2.2 i ++ behind.cut i) ∙ sym (append_assoc (spelling begins.0) (flat_map spelling frames) rest);
            shows = behind.shows;
          })));
    })
