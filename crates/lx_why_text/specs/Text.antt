-- The text of the acts and the certificates of a run: one line for each, acts first.
use Rattle.std.specs.Prelude.{ℕ, Bool, true, false, Option, Some, None, List, [], ◌++◌, codes, flat_map}
use Rattle.std.specs.List.{enumerate_from}
use Rattle.lx_caps.specs.declared.Principal.{Principal}
use Rattle.lx_caps.specs.declared.Cap.{Cap}
use Rattle.lx_caps.specs.declared.Atom.{Atom}
use Rattle.lx_caps.specs.declared.Act.{Act}
use Rattle.lx_caps.specs.declared.Act.TheVariants.{Grant, Strip, Zero, Loan, Lend, Shut, ShutAll}
use Rattle.lx_annot.specs.Canonical.{Text}
use Rattle.lx_certificates.specs.declared.Part.{Part}
use Rattle.lx_certificates.specs.declared.Cert.{Cert}
use Rattle.lx_certificates.specs.declared.Cert.TheVariants.{Allow, Deny, Borrowed}
use Rattle.lx_certificates.specs.Certificates.{address_of}
use Rattle.lx_model.specs.declared.program.Program.{Program}
use Rattle.lx_model.specs.declared.account.InstanceName.{InstanceName}
use Rattle.lx_report.specs.Report.{number_text, address_text, principal_text, cap_text, line}
use Rattle.lx_why_text.specs.declared.Certified.{Certified}

-- a principal, and a capability that it gets or needs
abbrev pub claim_text : Program → List InstanceName → Principal → Cap → Text
claim_text p names who c = principal_text p names who ++ codes " " ++ cap_text p.interface c

-- acts

-- the number of an act, and the word for what it does
abbrev pub act_opening : ℕ → Text → Text
act_opening n word = codes "act " ++ number_text n ++ word

-- the thread of a loan, and what is lent to whom
abbrev pub lend_text : Program → List InstanceName → ℕ → Principal → Cap → Text
lend_text p names t who c = number_text t ++ codes " " ++ claim_text p names who c

-- a thread, and how many of its loans end
abbrev pub shut_text : ℕ → ℕ → Text
shut_text t count = number_text t ++ codes " " ++ number_text count

-- the act with this number; an act that only zeroes memory has no line
abbrev pub act_line_of : Program → List InstanceName → ℕ → Act → Text
act_line_of p names n (Grant who c) = line (act_opening n (codes " grant ") ++ claim_text p names who c)
act_line_of p names n (Strip c) = line (act_opening n (codes " strip ") ++ cap_text p.interface c)
act_line_of p names n (Zero at size) = []
act_line_of p names n (Loan t) = line (act_opening n (codes " loan ") ++ number_text t)
act_line_of p names n (Lend t who c) = line (act_opening n (codes " lend ") ++ lend_text p names t who c)
act_line_of p names n (Shut t count) = line (act_opening n (codes " shut ") ++ shut_text t count)
act_line_of p names n (ShutAll t) = line (act_opening n (codes " shutall ") ++ number_text t)

-- an act and its number
abbrev pub act_line : Program → List InstanceName → ℕ × Act → Text
act_line p names x = act_line_of p names x.0 x.1

-- certificates

-- the first address of atoms, and how many they are
abbrev pub span_text : ℕ → ℕ → Text
span_text low size = address_text low ++ codes "+" ++ number_text size

-- atoms, and the number of the act that gave them
abbrev pub part_text : Part → Text
part_text part = codes " " ++ span_text part.low part.size ++ codes "@" ++ number_text part.act

-- whether what is allowed must be kept
abbrev pub allow_word : Bool → Text
allow_word true = codes "keep "
allow_word false = codes "allow "

-- the atom that is lacking or borrowed
abbrev pub atom_text : Atom → Text
atom_text x = codes " atom " ++ address_text (address_of x)

-- the number of the newest strip of an atom, if there is one
abbrev pub strip_text : Option ℕ → Text
strip_text None = codes " strip none"
strip_text (Some act) = codes " strip " ++ number_text act

-- what a certificate says
abbrev pub cert_text : Program → List InstanceName → Cert → Text
cert_text p names (Allow who c kept parts) = allow_word kept ++ claim_text p names who c ++ flat_map part_text parts
cert_text p names (Deny who c x strip) = codes "deny " ++ claim_text p names who c ++ atom_text x ++ strip_text strip
cert_text p names (Borrowed who c x act) =
    codes "borrowed " ++ claim_text p names who c ++ atom_text x ++ codes " loan " ++ number_text act

-- the number and the thread of the event that had the need, and its certificate
abbrev pub certified_line : Program → List InstanceName → Certified → Text
certified_line p names c =
    line (number_text c.event ++ codes " " ++ number_text c.thread ++ codes " " ++ cert_text p names c.cert)

-- the acts with their numbers from 0, and then the certificates
abbrev pub why_text : Program → List InstanceName → List Act → List Certified → Text
why_text p names acts certs =
    flat_map (act_line p names) (enumerate_from 0 acts) ++ flat_map (certified_line p names) certs
