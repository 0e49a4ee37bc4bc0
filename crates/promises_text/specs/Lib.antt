-- NoStaleText: what is promised of the whole reading. Sources: and of where each octet of it stands.
pub mod NoStaleText
pub mod Sources
