pub mod NoteFiles
pub mod Forms
pub mod Sources
pub mod Splices
pub mod Noted
pub mod UnitsStay
