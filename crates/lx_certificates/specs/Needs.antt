-- What needs come to, and their certificates.
use Rattle.std.specs.Prelude.{◌≡◌, Bool, true, false, not, ◌&&◌, ◌||◌, List, [], ◌∷◌, if◌then◌else◌, ⊤}
use Rattle.lx_caps.specs.History.{History, holds, keeps_all}
use Rattle.lx_certificates.specs.declared.Cert.{Cert}
use Rattle.lx_certificates.specs.declared.Cert.TheVariants.{Allow, Deny, Borrowed}
use Rattle.lx_certificates.specs.declared.Need.{Need}
use Rattle.lx_certificates.specs.Laws.{IsCertFor}

-- the capability is held, and kept where it has to be
abbrev pub is_met : History → Need → Bool
is_met h n = holds h n.who n.cap && (not n.kept || keeps_all h n.who n.cap)

-- the needs up to and with the first that is not met
abbrev pub up_to_unmet : History → List Need → List Need
up_to_unmet h [] = []
up_to_unmet h (n ∷ ns) = n ∷ (if is_met h n then up_to_unmet h ns else [])

-- the certificate allows
abbrev pub is_allow : Cert → Bool
is_allow (Allow who cap kept parts) = true
is_allow (Deny who cap x strip) = false
is_allow (Borrowed who cap x act) = false

-- the certificate of a need
abbrev pub IsCertOf : History → Need → Cert → Type 0
IsCertOf h n c = IsCertFor h n.who n.cap n.kept c

-- each need has its certificate, in order
abbrev pub AreCertsOf : History → List Need → List Cert → Type 0
AreCertsOf h [] [] = ⊤
AreCertsOf h (n ∷ ns) (c ∷ cs) = IsCertOf h n c × AreCertsOf h ns cs
AreCertsOf h _ _ = ⊥

pub record NeedLaws : Type 0 where
  -- a need is met exactly where its certificate allows
  pub met : (h : History) (n : Need) (c : Cert) → IsCertOf h n c → is_allow c ≡ is_met h n
  -- needs have one list of certificates
  pub one_list : (h : History) (ns : List Need) (cs ds : List Cert) → AreCertsOf h ns cs → AreCertsOf h ns ds → cs ≡ ds
