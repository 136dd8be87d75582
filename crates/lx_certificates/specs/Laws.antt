-- What a true certificate means, and that a need has one.
use Rattle.std.specs.Prelude.{◌≡◌, ◌≢◌, ℕ, Bool, true, false, IsTrue, Option, None, List}
use Rattle.lx_caps.specs.declared.Principal.{Principal}
use Rattle.lx_caps.specs.declared.Principal.TheVariants.{Kernel}
use Rattle.lx_caps.specs.declared.Cap.{Cap}
use Rattle.lx_caps.specs.declared.Atom.{Atom}
use Rattle.lx_caps.specs.History.{History, holds, keeps_all, reached, kept_in_reach}
use Rattle.lx_certificates.specs.declared.Cert.{Cert}
use Rattle.lx_certificates.specs.declared.Cert.TheVariants.{Allow, Deny, Borrowed}
use Rattle.lx_certificates.specs.declared.givers.Gifts.TheVariants.{Grants, Both}
use Rattle.lx_certificates.specs.declared.Part.{Part}
use Rattle.lx_certificates.specs.Certificates.{is_cert, is_wanted}
use Rattle.lx_certificates.specs.Givers.{giver}

-- the certificate is for the need of this capability, which must be kept or not
abbrev pub IsFor : Principal → Cap → Bool → Cert → Type 0
IsFor who cap kept (Allow w c k parts) = (w ≡ who) × (c ≡ cap) × (k ≡ kept)
IsFor who cap kept (Deny w c x strip) = (w ≡ who) × (c ≡ cap)
IsFor who cap kept (Borrowed w c x act) = (w ≡ who) × (c ≡ cap) × (kept ≡ true)

-- the certificate of a need by a history
abbrev pub IsCertFor : History → Principal → Cap → Bool → Cert → Type 0
IsCertFor h who cap kept c = IsFor who cap kept c × IsTrue (is_cert h c)

pub record CertificateLaws : Type 0 where
  -- what is allowed is held, and kept where the certificate says so
  pub allowed : (h : History) (who : Principal) (cap : Cap) (kept : Bool) (parts : List Part) → IsTrue (is_cert h (Allow who cap kept parts)) → IsTrue (holds h who cap)
  pub allowed_kept : (h : History) (who : Principal) (cap : Cap) (parts : List Part) → IsTrue (is_cert h (Allow who cap true parts)) → IsTrue (keeps_all h who cap)
  -- what is denied is not held
  pub denied : (h : History) (who : Principal) (cap : Cap) (x : Atom) (strip : Option ℕ) → IsTrue (is_cert h (Deny who cap x strip)) → holds h who cap ≡ false
  -- what is borrowed is held and not kept
  pub borrowed : (h : History) (who : Principal) (cap : Cap) (x : Atom) (act : ℕ) → IsTrue (is_cert h (Borrowed who cap x act)) → IsTrue (holds h who cap) × (keeps_all h who cap ≡ false)
  -- a need of a module has exactly one certificate
  pub has_one : (h : History) (who : Principal) (cap : Cap) (kept : Bool) → who ≢ Kernel → (c : Cert) × IsCertFor h who cap kept c
  pub one : (h : History) (who : Principal) (cap : Cap) (kept : Bool) (c d : Cert) → IsCertFor h who cap kept c → IsCertFor h who cap kept d → c ≡ d
  -- an atom is owned in reach exactly where an act gave it that still stands, and kept where a grant did
  pub owned : (h : History) (who : Principal) (x : Atom) → is_wanted None (giver Both h who x) ≡ reached h who x
  pub kept : (h : History) (who : Principal) (x : Atom) → is_wanted None (giver Grants h who x) ≡ kept_in_reach h who x
